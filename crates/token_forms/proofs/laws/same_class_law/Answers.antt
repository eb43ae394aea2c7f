use Rattle.token_forms.specs.Classes.{class_of}
use Rattle.token_forms.proofs.Classes.{same_number}
use Rattle.token_forms.proofs.laws.same_class_law.Goals as goal

pub returns : goal.returns
returns c = λ some other same. same_number (class_of some) (class_of other) same
