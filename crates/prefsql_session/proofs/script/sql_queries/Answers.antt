use Rattle.prefsql_session.proofs.TypedLemmas.{read_executable}
use Rattle.prefsql_session.proofs.script.sql_queries.Goals as goal

pub returns-clause-executable : goal.returns-clause-executable
returns-clause-executable c =
    let tables = c.args.tables.now in
    let text = c.args.text.now in
    let queries = c.in_ok-read_sql.field-0 in
    let reads = c.in_ok-read_sql.ensures.reads in
    let formed = c.read_queries_law.ensures.formed tables text queries c.keeps_limits.ensures c.requires reads in
    read_executable tables queries formed (c.read_queries_law.ensures.fit tables text queries reads)
