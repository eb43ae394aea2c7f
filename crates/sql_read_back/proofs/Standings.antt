-- A condition is written as it is read where it stands, in parentheses where these have to be.
use Rattle.std.proofs.Common.{List}
use Rattle.sql_text.specs.declared.named.NamedCond.{NamedCond}
use Rattle.prefsql_values.specs.Nesting.{Standing, alone, in_and, in_or, after_not, wraps_and, wraps_or, wraps_not}
use Rattle.sql_text.specs.Grammar.{Grammar, cond, conj, neg, test}
use Rattle.sql_text.specs.Pieces.{Piece}
use Rattle.sql_text.specs.Text.{in_parentheses, in_parentheses_if}
use Rattle.sql_read_back.proofs.WrittenForms.{Written}
use Rattle.sql_read_back.proofs.CondsWritten.{test_in_neg, neg_in_conj, conj_in_cond, parens_in_test}

-- the form by which a condition is read where it stands
abbrev pub form_at : Standing → Grammar NamedCond
form_at alone = cond
form_at in_or = conj
form_at in_and = neg
form_at after_not = test

pub place_test : (ps : List Piece) (R : NamedCond → Type 0) → Written test ps R → (standing : Standing) → Written (form_at standing) ps R
place_test ps R w alone = conj_in_cond ps R (neg_in_conj ps R (test_in_neg ps R w))
place_test ps R w in_or = neg_in_conj ps R (test_in_neg ps R w)
place_test ps R w in_and = test_in_neg ps R w
place_test ps R w after_not = w

pub place_not : (ps : List Piece) (R : NamedCond → Type 0) → Written neg ps R → (standing : Standing) → Written (form_at standing) (in_parentheses_if (wraps_not standing) ps) R
place_not ps R w alone = conj_in_cond ps R (neg_in_conj ps R w)
place_not ps R w in_or = neg_in_conj ps R w
place_not ps R w in_and = w
place_not ps R w after_not = parens_in_test ps R (conj_in_cond ps R (neg_in_conj ps R w))

pub place_and : (ps : List Piece) (R : NamedCond → Type 0) → Written conj ps R → (standing : Standing) → Written (form_at standing) (in_parentheses_if (wraps_and standing) ps) R
place_and ps R w alone = conj_in_cond ps R w
place_and ps R w in_or = w
place_and ps R w in_and = test_in_neg (in_parentheses ps) R (parens_in_test ps R (conj_in_cond ps R w))
place_and ps R w after_not = parens_in_test ps R (conj_in_cond ps R w)

pub place_or : (ps : List Piece) (R : NamedCond → Type 0) → Written cond ps R → (standing : Standing) → Written (form_at standing) (in_parentheses_if (wraps_or standing) ps) R
place_or ps R w alone = w
place_or ps R w in_or = neg_in_conj (in_parentheses ps) R (test_in_neg (in_parentheses ps) R (parens_in_test ps R w))
place_or ps R w in_and = test_in_neg (in_parentheses ps) R (parens_in_test ps R w)
place_or ps R w after_not = parens_in_test ps R w
