-- Faults in their order.
use Rattle.std.proofs.Common.{◌≡◌, List, [], ◌∷◌, ◌++◌, Ok, Err, refl, sym, subst}
use Rattle.table_csv.specs.Fault.{Gives, unless_faulty}
use Rattle.table_csv.specs.declared.fault.TableFault.{TableFault}
use Rattle.table_csv.specs.declared.fault.TableFault.TheVariants.{Bad, Memory}
use Rattle.table_csv.specs.declared.fault.TableSpot.{TableSpot}

first_of : {T U : Type 0} (part more : List TableSpot) (v : T) (w : U) (fault : TableFault) → Gives (unless_faulty part v) (Err fault)
    → Gives (unless_faulty (part ++ more) w) (Err fault)
first_of part more v w Memory h = tt
first_of [] more v w (Bad spot) h = absurd (cc)
first_of (first ∷ part) more v w (Bad spot) h = cc

-- the first fault of a part is the first of the whole that begins with the part
pub fault_first : {T U : Type 0} (whole part more : List TableSpot) (v : T) (w : U) (fault : TableFault) → whole ≡ part ++ more → Gives (unless_faulty part v) (Err fault)
    → Gives (unless_faulty whole w) (Err fault)
fault_first whole part more v w fault begins h = subst (λ faults. Gives (unless_faulty faults w) (Err fault)) (sym begins) (first_of part more v w fault h)

-- a part that was read has no fault
pub no_fault : {F T : Type 0} (part : List F) (v u : T) → unless_faulty part v ≡ Ok u → (part ≡ []) × (v ≡ u)
no_fault [] v u is = (refl, cc)
no_fault (first ∷ part) v u is = absurd (cc)
