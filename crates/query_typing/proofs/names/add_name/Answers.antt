use Rattle.std.proofs.Common.{◌∙◌, ap}
use Rattle.std.specs.HashMap.{get_by}
use Rattle.std.specs.Str.{bytes_eq}
use Rattle.std.proofs.lemmas.Map.Text.{hash_map_updates_str}
use Rattle.query_typing.specs.NamePlaces.{place_more}
use Rattle.query_typing.proofs.NameLaws.{index_more}
use Rattle.query_typing.proofs.names.add_name.Goals as goal

pub returns : goal.returns
returns c = λ names is at.
    index_more (λ q. get_by (λ k. bytes_eq q k.now) c.args.index.now) (λ q. get_by (λ k. bytes_eq q k.now) c.insert.new.self) names c.args.name.now c.place_more.result c.args.place
    is at (c.place_more.ensures ∙ ap (λ k. place_more k c.args.place) c.find_name-known.ensures)
    (λ q. hash_map_updates_str c.args.name.now c.args.index.now c.insert.new.self _ c.in_ok-insert.ensures.updates q)
