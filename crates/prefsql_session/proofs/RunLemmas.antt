-- What a run has written at each of its ends.
use Rattle.std.proofs.Common.{◌≡◌, ◌∙◌, ◌⊎◌, ℕ, zero, suc, true, false, List, [], ◌∷◌, Option, None, Some, inl, inr, refl, sym, subst, ap, take, append-nil}
use Rattle.std.specs.Io.KnownBytes.{Appends, Keeps}
use Rattle.std.specs.List.{flat_map}
use Rattle.prefsql_session.specs.Counts.{tests_line}
use Rattle.prefsql_session.specs.Faults.{fault_line}
use Rattle.prefsql_session.specs.Course.{HasOneEnd}
use Rattle.prefsql_session.specs.Parts.{IsAskedFor, IsUtf8Work, WritesLine, WritesWork}
use Rattle.prefsql_session.specs.Run.{AtEnd, FallsShort, Finishes, FinishesAt, GetsAll, GetsFront, IsDueAt, IsDueOf, IsDueSoFar, IsDueSoFarAt, IsDueSoFarOf, IsDueWith, IsGood, IsTextAt, IsTextOf, WritesDue, WritesText}
use Rattle.prefsql_session.specs.Stage.{Stage, untold, barred, unaccepted, missing, faulty, ready, MayGive, MayHaveFault}
use Rattle.prefsql_session.specs.Texts.{text_of}
use Rattle.prefsql_session.specs.declared.command.Command.{Command}
use Rattle.prefsql_session.specs.declared.command.Command.TheVariants.{OnScript}
use Rattle.prefsql_session.specs.declared.command.Command.TheVariants as command
use Rattle.prefsql_session.specs.declared.command.Task.TheVariants.{Ask, Execute}
use Rattle.prefsql_session.specs.declared.command.Wish.TheVariants.{Answer, Show}
use Rattle.prefsql_session.specs.declared.fault.Fault.{Fault}
use Rattle.prefsql_session.specs.declared.session.Status.{Status}
use Rattle.prefsql_session.specs.declared.session.Status.TheVariants.{Done, Refused, Usage, ReadFault, WriteFault, Memory, ShelfFault}
use Rattle.prefsql_session.specs.declared.work.Work.{Work}
use Rattle.prefsql_session.specs.declared.work.Work.TheVariants.{Bench, Queries, Statements}

text_at : (end : Stage Work) (work : Work) (text : List ℕ) → MayGive end work → text ≡ text_of work → IsTextAt end text
text_at untold work text is e = tt
text_at barred work text is e = absurd is
text_at unaccepted work text is e = absurd is
text_at missing work text is e = absurd is
text_at (faulty fault) work text is e = absurd is
text_at (ready found) work text is e = e ∙ ap text_of (sym is)

-- ---- bytes that one part wants are those that the run wants

module _ (Wanted Due : List ℕ → Type 0) (fits : (bytes : List ℕ) → Wanted bytes → Due bytes) where
  all_fits : (old new : Option (List ℕ)) → GetsAll Wanted old new → GetsAll Due old new
  all_fits old new all = (all.0, fits all.0 all.1, all.2)

  front_fits : (old new : Option (List ℕ)) → GetsFront Wanted old new → GetsFront Due old new
  front_fits old new (inl keeps) = inl keeps
  front_fits old new (inr some) = inr (some.0, fits some.0 some.1, some.2)

  short_front : (before now : ℕ) (old new : Option (List ℕ)) → FallsShort Wanted before now old new → GetsFront Due old new
  short_front before now old new short = inr (short.1.0, fits short.1.0 short.1.1, (short.1.2.0, short.1.2.2))

-- ---- what is due beside the texts

due_at : (end : Stage Work) (work : Work) (lines : List ℕ) → MayGive end work → IsDueWith work lines → IsDueAt end lines
due_at untold work lines is e = tt
due_at barred work lines is e = absurd is
due_at unaccepted work lines is e = absurd is
due_at missing work lines is e = absurd is
due_at (faulty fault) work lines is e = absurd is
due_at (ready found) work lines is e = subst (λ (w : Work). IsDueWith w lines) (sym is) e

so_far_at : (end : Stage Work) (work : Work) (lines : List ℕ) → MayGive end work → IsDueSoFar work lines → IsDueSoFarAt end lines
so_far_at untold work lines is e = tt
so_far_at barred work lines is e = absurd is
so_far_at unaccepted work lines is e = absurd is
so_far_at missing work lines is e = absurd is
so_far_at (faulty fault) work lines is e = absurd is
so_far_at (ready found) work lines is e = subst (λ (w : Work). IsDueSoFar w lines) (sym is) e

finishes_at : (end : Stage Work) (work : Work) (old new : Option (List ℕ)) (before after : ℕ) → MayGive end work → Finishes work old new before after
    → FinishesAt end old new before after
finishes_at untold work old new before after is e = tt
finishes_at barred work old new before after is e = absurd is
finishes_at unaccepted work old new before after is e = absurd is
finishes_at missing work old new before after is e = absurd is
finishes_at (faulty fault) work old new before after is e = absurd is
finishes_at (ready found) work old new before after is e = subst (λ (w : Work). Finishes w old new before after) (sym is) e

nothing_kept : (old new : Option (List ℕ)) → Appends old new [] → Keeps old new
nothing_kept None new is = tt
nothing_kept (Some xs) None is = absurd is
nothing_kept (Some xs) (Some ys) is = is ∙ append-nil xs

take_none : (n : ℕ) (xs : List ℕ) → xs ≡ [] → take n xs ≡ []
take_none zero xs none = refl
take_none (suc n) [] none = refl
take_none (suc n) (x ∷ xs) none = absurd (cc)

no_front_kept : (old new : Option (List ℕ)) → GetsFront (λ (lines : List ℕ). lines ≡ []) old new → Keeps old new
no_front_kept old new (inl keeps) = keeps
no_front_kept old new (inr some) =
    nothing_kept old new (subst (Appends old new) (take_none some.2.0 some.0 some.1) some.2.1)

-- ---- a run that has something to write

module _ (Course : Stage Work → Type 0) (old new : Option (List ℕ)) (before after : ℕ) where
  done_due : (asked : Option Command) (work : Work) → AtEnd Course (λ end. MayGive end work) → IsAskedFor asked work
      → Finishes work old new before after → WritesDue Course asked Done old new
  done_due None work at is finishes = absurd is
  done_due (Some (OnScript (Ask (Answer true)) words)) (Statements task tables blocks) at is finishes =
      let found = subst (λ t. AtEnd Course (λ end. MayGive end (Statements t tables blocks))) is at in
      let made = subst (λ t. Finishes (Statements t tables blocks) old new before after) is finishes in (
        flat_map tests_line made.0,
        (found.0, found.1, due_at found.0 (Statements (Answer true) tables blocks) (flat_map tests_line made.0) found.2 (made.0, made.1.counts, refl)),
        made.2,
      )
  done_due (Some (OnScript (Ask (Answer false)) words)) (Statements task tables blocks) at is finishes =
      let made = subst (λ t. Finishes (Statements t tables blocks) old new before after) is finishes in
      nothing_kept old new made.2
  done_due (Some (OnScript (Ask (Show shown)) words)) (Statements task tables blocks) at is finishes =
      subst (λ t. Finishes (Statements t tables blocks) old new before after) is finishes
  done_due (Some (OnScript (Ask (Answer true)) words)) (Queries tables queries) at is finishes = absurd is
  done_due (Some (OnScript (Ask (Answer false)) words)) (Queries tables queries) at is finishes = absurd is
  done_due (Some (OnScript (Ask (Show shown)) words)) (Queries tables queries) at is finishes = absurd is
  done_due (Some (OnScript Execute words)) (Queries tables queries) at is finishes = finishes
  done_due (Some (OnScript Execute words)) (Statements wish tables blocks) at is finishes = absurd is
  done_due (Some (OnScript Execute words)) (Bench count) at is finishes = absurd is
  done_due (Some (OnScript (Ask (Answer true)) words)) (Bench count) at is finishes = absurd is
  done_due (Some (OnScript (Ask (Answer false)) words)) (Bench count) at is finishes = absurd is
  done_due (Some (OnScript (Ask (Show shown)) words)) (Bench count) at is finishes = absurd is
  done_due (Some (command.Bench count)) work at is finishes =
      let made = subst (λ w. Finishes w old new before after) is finishes in made.2

  memory_due : (asked : Option Command) (work : Work) → AtEnd Course (λ end. MayGive end work) → IsAskedFor asked work
      → GetsFront (IsDueSoFar work) old new → WritesDue Course asked Memory old new
  memory_due None work at is front = absurd is
  memory_due (Some (OnScript (Ask (Answer true)) words)) work at is front =
      front_fits (IsDueSoFar work) (IsDueSoFarOf Course) (λ lines due. (at.0, at.1, so_far_at at.0 work lines at.2 due)) old new front
  memory_due (Some (OnScript (Ask (Answer false)) words)) (Statements task tables blocks) at is front =
      no_front_kept old new (subst (λ t. GetsFront (IsDueSoFar (Statements t tables blocks)) old new) is front)
  memory_due (Some (OnScript (Ask (Show shown)) words)) (Statements task tables blocks) at is front =
      no_front_kept old new (subst (λ t. GetsFront (IsDueSoFar (Statements t tables blocks)) old new) is front)
  memory_due (Some (OnScript (Ask (Answer false)) words)) (Queries tables queries) at is front = absurd is
  memory_due (Some (OnScript (Ask (Show shown)) words)) (Queries tables queries) at is front = absurd is
  memory_due (Some (OnScript Execute words)) (Queries tables queries) at is front = no_front_kept old new front
  memory_due (Some (OnScript Execute words)) (Statements wish tables blocks) at is front = absurd is
  memory_due (Some (OnScript Execute words)) (Bench count) at is front = absurd is
  memory_due (Some (OnScript (Ask (Answer false)) words)) (Bench count) at is front = absurd is
  memory_due (Some (OnScript (Ask (Show shown)) words)) (Bench count) at is front = absurd is
  memory_due (Some (command.Bench count)) work at is front =
      no_front_kept old new (subst (λ w. GetsFront (IsDueSoFar w) old new) is front)

module _ (Course : Stage Work → Type 0) (asked : Option Command) (work : Work) (at : AtEnd Course (λ end. MayGive end work)) (is : IsAskedFor asked work)
    (before now : ℕ) (old new : Option (List ℕ)) (err_before err_now : ℕ) (err_old err_new : Option (List ℕ)) (start end : ℕ) where
  abbrev Wrote : Status → Type 0
  Wrote = WritesWork work before now old new err_before err_now err_old err_new start end

  text_fits : (text : List ℕ) → text ≡ text_of work → IsTextOf Course text
  text_fits text e = (at.0, at.1, text_at at.0 work text at.2 e)

  so_far_fits : (lines : List ℕ) → IsDueSoFar work lines → IsDueSoFarOf Course lines
  so_far_fits lines due = (at.0, at.1, so_far_at at.0 work lines at.2 due)

  pub worked_text : (result : Status) → Wrote result → WritesText Course result old new
  worked_text Done wrote = all_fits (λ text. text ≡ text_of work) (IsTextOf Course) text_fits old new wrote.0
  worked_text Refused wrote = absurd wrote
  worked_text Usage wrote = absurd wrote
  worked_text ReadFault wrote = absurd wrote
  worked_text WriteFault (inl wrote) = short_front (λ text. text ≡ text_of work) (IsTextOf Course) text_fits before now old new wrote.0
  worked_text WriteFault (inr wrote) = front_fits (λ text. text ≡ text_of work) (IsTextOf Course) text_fits old new wrote.0
  worked_text Memory wrote = front_fits (λ text. text ≡ text_of work) (IsTextOf Course) text_fits old new wrote.0
  worked_text ShelfFault wrote = absurd wrote

  pub worked_due : (result : Status) → Wrote result → WritesDue Course asked result err_old err_new
  worked_due Done wrote = done_due Course err_old err_new start end asked work at is wrote.1
  worked_due Refused wrote = absurd wrote
  worked_due Usage wrote = absurd wrote
  worked_due ReadFault wrote = absurd wrote
  worked_due WriteFault (inl wrote) = front_fits (IsDueSoFar work) (IsDueSoFarOf Course) so_far_fits err_old err_new wrote.1
  worked_due WriteFault (inr wrote) = short_front (IsDueSoFar work) (IsDueSoFarOf Course) so_far_fits err_before err_now err_old err_new wrote.1
  worked_due Memory wrote = memory_due Course err_old err_new start end asked work at is wrote.1
  worked_due ShelfFault wrote = absurd wrote

  pub worked_short : (result : Status) → result ≡ WriteFault → Wrote result
      → FallsShort (IsTextOf Course) before now old new ⊎ FallsShort (IsDueSoFarOf Course) err_before err_now err_old err_new
  worked_short result fault wrote = go (subst Wrote fault wrote)
    where
      go : Wrote WriteFault → FallsShort (IsTextOf Course) before now old new ⊎ FallsShort (IsDueSoFarOf Course) err_before err_now err_old err_new
      go (inl short) = inl (short.0.0, (short.0.1.0, text_fits short.0.1.0 short.0.1.1, short.0.1.2))
      go (inr short) = inr (short.1.0, (short.1.1.0, so_far_fits short.1.1.0 short.1.1.1, short.1.1.2))

  pub worked_counted : (result : Status) → result ≡ Done → Wrote result → AtEnd Course (λ stage. FinishesAt stage err_old err_new start end)
  worked_counted result done wrote =
      let made = subst Wrote done wrote in (at.0, at.1, finishes_at at.0 work err_old err_new start end at.2 made.1)

  pub worked_utf8 : (result : Status) → result ≡ Done → Wrote result → IsUtf8Work work
  worked_utf8 result done wrote = let made = subst Wrote done wrote in made.2

-- ---- a run that is refused

fault_due_at : (end : Stage Work) (fault : Fault) (line : List ℕ) → MayHaveFault end fault → line ≡ fault_line fault → IsDueAt end line
fault_due_at untold fault line is e = tt
fault_due_at barred fault line is e = tt
fault_due_at unaccepted fault line is e = absurd is
fault_due_at missing fault line is e = absurd is
fault_due_at (faulty first) fault line is e = e ∙ ap fault_line (sym is)
fault_due_at (ready work) fault line is e = absurd is

fault_so_far_at : (end : Stage Work) (fault : Fault) (line : List ℕ) → MayHaveFault end fault → line ≡ fault_line fault → IsDueSoFarAt end line
fault_so_far_at untold fault line is e = tt
fault_so_far_at barred fault line is e = tt
fault_so_far_at unaccepted fault line is e = absurd is
fault_so_far_at missing fault line is e = absurd is
fault_so_far_at (faulty first) fault line is e = e ∙ ap fault_line (sym is)
fault_so_far_at (ready work) fault line is e = absurd is

module _ (Course : Stage Work → Type 0) (fault : Fault) (at : AtEnd Course (λ end. MayHaveFault end fault)) (before now : ℕ) (old new : Option (List ℕ)) where
  abbrev Line : List ℕ → Type 0
  Line line = line ≡ fault_line fault

  kept_due : (asked : Option Command) → Keeps old new → WritesDue Course asked Memory old new
  kept_due None keeps = keeps
  kept_due (Some (OnScript (Ask (Answer true)) words)) keeps = inl keeps
  kept_due (Some (OnScript (Ask (Answer false)) words)) keeps = keeps
  kept_due (Some (OnScript (Ask (Show shown)) words)) keeps = keeps
  kept_due (Some (OnScript Execute words)) keeps = keeps
  kept_due (Some (command.Bench count)) keeps = keeps

  pub refused_due : (asked : Option Command) (result : Status) → WritesLine Line Refused before now old new result → WritesDue Course asked result old new
  refused_due asked result (inl all) =
      subst (λ s. WritesDue Course asked s old new) (sym all.0)
      (all_fits Line (IsDueOf Course) (λ line e. (at.0, at.1, fault_due_at at.0 fault line at.2 e)) old new all.1)
  refused_due asked result (inr (inl short)) =
      subst (λ s. WritesDue Course asked s old new) (sym short.0)
      (short_front Line (IsDueSoFarOf Course) (λ line e. (at.0, at.1, fault_so_far_at at.0 fault line at.2 e)) before now old new short.1)
  refused_due asked result (inr (inr kept)) = subst (λ s. WritesDue Course asked s old new) (sym kept.0) (kept_due asked kept.1)

-- ---- a good end is the only end

good_alone : (end : Stage Work) (fault : Fault) → IsGood end → MayHaveFault end fault → ⊥
good_alone untold fault good has = good
good_alone barred fault good has = good
good_alone unaccepted fault good has = good
good_alone missing fault good has = good
good_alone (faulty first) fault good has = good
good_alone (ready work) fault good has = has

pub refused_unready : (Course : Stage Work → Type 0) (fault : Fault) → HasOneEnd Course → AtEnd Course (λ end. MayHaveFault end fault) → AtEnd Course IsGood → ⊥
refused_unready Course fault one has good = good_alone good.0 fault good.2 (subst (λ end. MayHaveFault end fault) (one has.0 good.0 has.1 good.1) has.2)

pub usage_unready : (Course : Stage Work → Type 0) → HasOneEnd Course → Course unaccepted → AtEnd Course IsGood → ⊥
usage_unready Course one is good = subst IsGood (one good.0 unaccepted good.1 is) good.2
