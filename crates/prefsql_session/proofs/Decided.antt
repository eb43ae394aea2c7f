-- Where no device fails, a run that comes to an end that is told has the status of that end, or memory was not granted.
use Rattle.std.proofs.Common.{◌≡◌, ◌⊎◌, inl, inr, ℕ, List, Bool, Option, refl, sym, subst, arith}
use Rattle.std.specs.Prelude.{IsTrue}
use Rattle.prefsql_io.specs.Counts.{IsQuiet, Rose}
use Rattle.prefsql_io.specs.Files.{Files}
use Rattle.prefsql_session.specs.Course.{Comes, GoesOn, HasOneEnd}
use Rattle.prefsql_session.specs.Opening.{opening}
use Rattle.prefsql_session.specs.Parts.{WritesLine, WritesWork}
use Rattle.prefsql_session.specs.Run.{AtEnd, HasStatus}
use Rattle.prefsql_session.specs.Stage.{Stage, untold, barred, unaccepted, missing, faulty, ready, IsTold, MayGive, MayHaveFault}
use Rattle.prefsql_session.specs.declared.fault.Fault.{Fault}
use Rattle.prefsql_session.specs.declared.session.Status.{Status}
use Rattle.prefsql_session.specs.declared.session.Status.TheVariants.{Done, Refused, Usage, ReadFault, WriteFault, Memory, ShelfFault}
use Rattle.prefsql_session.specs.declared.work.Work.{Work}

quiet_rose : (before now : ℕ) → IsQuiet before now → Rose before now → ⊥
quiet_rose before now quiet rose = omega (arith, quiet, rose)

-- an end that is told has the fault that it may have, and gives work where it may give some
fault_status : (end : Stage Work) (fault : Fault) → IsTold end → MayHaveFault end fault → HasStatus end Refused
fault_status untold fault told has = told
fault_status barred fault told has = told
fault_status unaccepted fault told has = has
fault_status missing fault told has = has
fault_status (faulty first) fault told has = tt
fault_status (ready work) fault told has = has

work_status : (end : Stage Work) (work : Work) → IsTold end → MayGive end work → HasStatus end Done
work_status untold work told gives = told
work_status barred work told gives = told
work_status unaccepted work told gives = gives
work_status missing work told gives = gives
work_status (faulty fault) work told gives = gives
work_status (ready found) work told gives = tt

module _ (Course : Stage Work → Type 0) (one : HasOneEnd Course) (end : Stage Work) (comes : Course end) where
  of_status : (status result : Status) → result ≡ status → HasStatus end status → HasStatus end result ⊎ (result ≡ Memory)
  of_status status result same has = inl (subst (HasStatus end) (sym same) has)

  pub usage_decided : Course unaccepted → (Line : List ℕ → Type 0) (before now : ℕ) (old new : Option (List ℕ)) (result : Status) → WritesLine Line Usage before now old new result → IsQuiet before now
      → HasStatus end result ⊎ (result ≡ Memory)
  usage_decided is Line before now old new result (inl all) quiet =
      of_status Usage result all.0 (subst (λ stage. HasStatus stage Usage) (one unaccepted end is comes) tt)
  usage_decided is Line before now old new result (inr (inl short)) quiet = absurd (quiet_rose before now quiet short.1.0)
  usage_decided is Line before now old new result (inr (inr kept)) quiet = inr kept.0

  pub refused_decided : IsTold end → (fault : Fault) → AtEnd Course (λ stage. MayHaveFault stage fault) → (Line : List ℕ → Type 0) (before now : ℕ) (old new : Option (List ℕ)) (result : Status)
      → WritesLine Line Refused before now old new result → IsQuiet before now → HasStatus end result ⊎ (result ≡ Memory)
  refused_decided told fault has Line before now old new result (inl all) quiet =
      of_status Refused result all.0 (fault_status end fault told (subst (λ stage. MayHaveFault stage fault) (one has.0 end has.1 comes) has.2))
  refused_decided told fault has Line before now old new result (inr (inl short)) quiet = absurd (quiet_rose before now quiet short.1.0)
  refused_decided told fault has Line before now old new result (inr (inr kept)) quiet = inr kept.0

  module _ (told : IsTold end) (work : Work) (at : AtEnd Course (λ stage. MayGive stage work)) (before now : ℕ) (old new : Option (List ℕ))
      (err_before err_now : ℕ) (err_old err_new : Option (List ℕ)) (start stop : ℕ)
      (quiet : IsQuiet before now) (err_quiet : IsQuiet err_before err_now) where
    pub worked_decided : (result : Status) → WritesWork work before now old new err_before err_now err_old err_new start stop result → HasStatus end result ⊎ (result ≡ Memory)
    worked_decided Done wrote = inl (work_status end work told (subst (λ stage. MayGive stage work) (one at.0 end at.1 comes) at.2))
    worked_decided Refused wrote = absurd wrote
    worked_decided Usage wrote = absurd wrote
    worked_decided ReadFault wrote = absurd wrote
    worked_decided WriteFault (inl wrote) = absurd (quiet_rose before now quiet wrote.0.0)
    worked_decided WriteFault (inr wrote) = absurd (quiet_rose err_before err_now err_quiet wrote.1.0)
    worked_decided Memory wrote = inr refl
    worked_decided ShelfFault wrote = absurd wrote

-- a path that is not held, over a sure shelf
pub shelf_decided : (words : List (List ℕ)) (files : Option Files) (script : Option (List ℕ)) (end : Stage Work) → Comes words files script end → (sure : Bool) (before now : ℕ)
    → (IsTrue sure → opening words files ≡ missing) → Rose before now → IsTrue sure ⊎ IsQuiet before now → HasStatus end ShelfFault ⊎ (ShelfFault ≡ Memory)
shelf_decided words files script end comes sure before now not_held rose (inl is) =
    let same : end ≡ missing = subst (λ opens. GoesOn opens script end) (not_held is) comes in
    inl (subst (λ stage. HasStatus stage ShelfFault) (sym same) tt)
shelf_decided words files script end comes sure before now not_held rose (inr quiet) = absurd (quiet_rose before now quiet rose)
