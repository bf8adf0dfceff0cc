-- A log that breaks the first rule, and what a stop leaves of a copy on the way there and back.
use Rattle.std.proofs.Common.{◌≡◌, ◌⊎◌, inl, inr, ⊎_elim, ℕ, ◌-◌, ◌≤◌, suc, zero, List, [], ◌∷◌, ◌++◌, length, take, drop, true, false, refl, sym, ◌∙◌, ap, subst, arith, Err}
use Rattle.std.proofs.lemmas.Bool.{cases_eq, eqb-true}
use Rattle.std.proofs.lemmas.Bool.Decides.{nat_tests}
use Rattle.std.proofs.lemmas.List.{take-append-drop, append-nil}
use Rattle.tc_base.specs.Files.{Files, wrote}
use Rattle.tc_io.specs.Images.{Step, Torn, written, cut_to, synced, lost, Image, Calls, of, now, Images, ImagesSince, IsLost, IsLostSync}
use Rattle.ud_log.specs.Log.{magic}
use Rattle.ud_log.specs.Undo.{Log, agrees, broken, by_log, is_data, log_of, rule, undo}
use Rattle.ud_log.proofs.Heading.{agrees_not}
use Rattle.ud_log.proofs.Logs.{place_low}
use Rattle.ud_state.specs.Since.{Since, here, more, since_as, since_later, since_then}
use Rattle.ud_state.proofs.Taken.{lost_image, since_made, since_lost, since_lost_sync}
use Rattle.ud_state.proofs.Transaction.{of-other}
use Rattle.std.specs.Prelude.{Option, Some, unwrap_or}
use Rattle.tc_io.specs.Copies.{CopyMoments, IsCopied, LeftOfCopy, MakesCopy, Named, as_before, copied, copy_of, label_of, may_undo, unusable}
use Rattle.tk_copy.specs.Copying.{AreCopied, Copies, IsSpoiled, LeavesCopy, LogSynced, StaysSpoiled}

-- ---- bytes

log_broken : (log : List ℕ) → agrees magic log ≡ false → log_of log ≡ broken (rule 1)
unfolding log_of
log_broken log differs = rw differs

differs : (log : List ℕ) → may_undo log ≡ false → agrees magic log ≡ false
differs [] isnt = absurd cc
differs (x ∷ xs) isnt = agrees_not magic (x ∷ xs) 0 (omega arith) (omega arith) (grind (arith, nat_tests, isnt))

pub breaks : (ims : Files) → may_undo (ims 1) ≡ false → undo (ims 1) ims ≡ Err (rule 1)
breaks ims isnt = ap (λ (l : Log). by_log l ims) (log_broken (ims 1) (differs (ims 1) isnt))

first_differs : (x : ℕ) (xs : List ℕ) → (x ≡ 84 → ⊥) → may_undo (x ∷ xs) ≡ false
first_differs x xs other = grind (arith, nat_tests, other)

-- a byte written over the first, or behind none
pub written_differs : (log : List ℕ) → may_undo (wrote 0 (0 ∷ []) log) ≡ false
unfolding wrote
written_differs log = refl

take_one : (n y : ℕ) (ys : List ℕ) → y ∷ ys ≡ take n (0 ∷ []) → y ≡ 0
take_one zero y ys is = absurd cc
take_one (suc n) y ys is = cc

drop_none : (n : ℕ) → drop {A = ℕ} n [] ≡ []
drop_none zero = refl
drop_none (suc n) = refl

take_none : (n : ℕ) → take {A = ℕ} n [] ≡ []
take_none zero = refl
take_none (suc n) = refl

none_behind : (m k : ℕ) → 1 ≤ k → take m (drop {A = ℕ} k (0 ∷ [])) ≡ []
none_behind m zero low = absurd (omega (arith, low))
none_behind m (suc n) low = ap (λ (l : List ℕ). take m l) (drop_none n) ∙ take_none m

joined : (x y : ℕ) (xs ys : List ℕ) → y ≡ x → take (length xs) ys ≡ xs → drop (length xs) ys ≡ [] → y ∷ ys ≡ x ∷ xs
joined x y xs ys is front behind = λ i. is i ∷ (sym (take-append-drop (length xs) ys) ∙ (λ j. front j ++ behind j) ∙ append-nil xs) i

-- a byte that was written over the first and stopped: the log is what it was, or it begins otherwise
torn_log : (log i : List ℕ) → may_undo log ≡ true → Torn 0 (0 ∷ []) log i → (i ≡ log) ⊎ (may_undo i ≡ false)
torn_log [] [] may torn = inl refl
torn_log [] (y ∷ ys) may torn = inr (first_differs y ys (λ is. absurd (omega (arith, is, take_one _ y ys (torn.grown (omega arith))))))
torn_log (x ∷ xs) [] may torn = absurd (omega (arith, torn.no_shorter))
torn_log (x ∷ xs) (y ∷ ys) may torn = ⊎_elim
    (λ is. inl (joined x y xs ys (omega (arith, is, eqb-true x 84 may)) torn.behind (torn.grown (omega arith) ∙ none_behind (length (y ∷ ys) - length (x ∷ xs)) (length (x ∷ xs) - 0) (omega arith))))
    (λ other. inr (first_differs y ys other))
    (cases_eq y 84)

-- ---- moments

pub spoiled_leaves : (kept : Files) (old cs : Calls) → IsSpoiled cs → LeavesCopy kept old cs
spoiled_leaves kept old cs spoiled = record { all = λ ims are. unusable (spoiled.all (ims 1) (are 1)) }

spoiled_lost : (cs : Calls) (f : ℕ) (r : List ℕ) → IsSpoiled cs → IsSpoiled ((f, lost r) ∷ cs)
spoiled_lost cs f r spoiled = record { all = λ i im. spoiled.all i (lost_image cs f 1 r i im) }

spoiled_step : (cs : Calls) (f : ℕ) (s : Step) → (f ≡ 1 → ⊥) → IsSpoiled cs → IsSpoiled ((f, s) ∷ cs)
spoiled_step cs f s other spoiled = record { all = λ i im. spoiled.all i (subst (λ (l : List Step). Image l i) (of-other f 1 s cs other) im) }

leaves_lost : (kept : Files) (old cs : Calls) (f : ℕ) (r : List ℕ) → LeavesCopy kept old cs → LeavesCopy kept old ((f, lost r) ∷ cs)
leaves_lost kept old cs f r leaves = record { all = λ ims are. leaves.all ims (λ g. lost_image cs f g r (ims g) (are g)) }

pub spoiled_at : (old new : Calls) → IsSpoiled old → Since IsSpoiled old new → IsSpoiled new
spoiled_at old _ spoiled here = spoiled
spoiled_at old _ spoiled (more c cs since is) = is

pub stays_refl : (cs : Calls) → StaysSpoiled cs cs
stays_refl cs = record { moments = λ spoiled. here }

pub stays_same : (old new : Calls) → new ≡ old → StaysSpoiled old new
stays_same old new is = record { moments = λ spoiled. subst (λ (c : Calls). Since IsSpoiled old c) (sym is) here }

pub stays_then : (a b c : Calls) → StaysSpoiled a b → StaysSpoiled b c → StaysSpoiled a c
stays_then a b c first second = record { moments = λ spoiled. since_then IsSpoiled a b c (first.moments spoiled) (second.moments (spoiled_at a b spoiled (first.moments spoiled))) }

module _ (cs c1 : Calls) (f : ℕ) (other : f ≡ 1 → ⊥) where
  pub stays_made : (s : Step) → c1 ≡ (f, s) ∷ cs → StaysSpoiled cs c1
  stays_made s is = record { moments = λ spoiled. since_made IsSpoiled spoiled_lost cs c1 (f, s) is (spoiled_step cs f s other spoiled) }

  pub stays_lost : (s : Step) → IsLost cs c1 f s → StaysSpoiled cs c1
  stays_lost s is = record { moments = λ spoiled. since_lost IsSpoiled spoiled_lost cs c1 f s is (spoiled_step cs f s other spoiled) }

  pub stays_lost_sync : IsLostSync cs c1 f → StaysSpoiled cs c1
  stays_lost_sync is = record { moments = λ spoiled. since_lost_sync IsSpoiled spoiled_lost cs c1 f is spoiled }

-- ---- the log is spoiled

pub synced_first : (old : Calls) → Images old (now old) → LogSynced old ((1, synced) ∷ old)
synced_first old image = record { from = λ ims are g. each ims are g; only = λ i im. im }
  where
    each : (ims : Files) → Images ((1, synced) ∷ old) ims → (g : ℕ) → Image (of g old) (ims g)
    each ims are g = ⊎_elim
        (λ same. subst (λ h. Image (of h old) (ims h)) same (subst (λ (i : List ℕ). Image (of 1 old) i) (sym (are 1)) (image 1)))
        (λ other. subst (λ (l : List Step). Image l (ims g)) (of-other 1 g synced old other) (are g))
        (cases_eq 1 g)

pub synced_leaves : (kept : Files) (old cs : Calls) → LogSynced old cs → LeavesCopy kept old cs
synced_leaves kept old cs is = record { all = λ ims are. as_before (is.from ims are) }

module _ (kept : Files) (old : Calls) where
  pub first_made : (c1 : Calls) → Images old (now old) → c1 ≡ (1, synced) ∷ old → Since (LeavesCopy kept old) old c1
  first_made c1 image is = since_made (LeavesCopy kept old) (leaves_lost kept old) old c1 (1, synced) is (synced_leaves kept old _ (synced_first old image))

  pub first_lost : (c1 : Calls) → IsLostSync old c1 1 → Since (LeavesCopy kept old) old c1
  first_lost c1 is = since_lost_sync (LeavesCopy kept old) (leaves_lost kept old) old c1 1 is (record { all = λ ims are. as_before are })

  module _ (cs : Calls) (log : LogSynced old cs) (may : may_undo (now cs 1) ≡ true) where
    abbrev pub over : Calls
    over = (1, written 0 (0 ∷ [])) ∷ cs

    over_leaves : LeavesCopy kept old over
    over_leaves = record { all = λ ims are. each ims are }
      where
        each : (ims : Files) → Images over ims → LeftOfCopy kept old ims
        each ims are =
            let j = (are 1).0 in
            let there : Image (of 1 cs) j = (are 1).1 in
            let is : j ≡ now cs 1 = log.only j there in
            ⊎_elim
            (λ same. as_before (log.from ims (λ g. ⊎_elim
            (λ here. subst (λ h. Image (of h cs) (ims h)) here (subst (λ (i : List ℕ). Image (of 1 cs) i) (is ∙ sym same) there))
            (λ other. subst (λ (l : List Step). Image l (ims g)) (of-other 1 g (written 0 (0 ∷ [])) cs other) (are g))
            (cases_eq 1 g))))
            (λ other. unusable other)
            (torn_log (now cs 1) (ims 1) may (subst (λ (l : List ℕ). Torn 0 (0 ∷ []) l (ims 1)) is (are 1).2))

    pub over_spoiled : (c1 c2 : Calls) → c1 ≡ over → c2 ≡ (1, synced) ∷ c1 → IsSpoiled c2
    over_spoiled c1 c2 made is = subst (λ (c : Calls). IsSpoiled c) (sym (is ∙ ap (λ (c : Calls). (1, synced) ∷ c) made)) (record { all = λ i im. subst (λ (l : List ℕ). may_undo l ≡ false) (sym im) (written_differs (now cs 1)) })

    pub over_lost : (c1 : Calls) → IsLost cs c1 1 (written 0 (0 ∷ [])) → Since (LeavesCopy kept old) cs c1
    over_lost c1 is = since_lost (LeavesCopy kept old) (leaves_lost kept old) cs c1 1 (written 0 (0 ∷ [])) is over_leaves

    pub over_made : (c1 : Calls) → c1 ≡ over → Since (LeavesCopy kept old) cs c1
    over_made c1 is = since_made (LeavesCopy kept old) (leaves_lost kept old) cs c1 (1, written 0 (0 ∷ [])) is over_leaves

    pub over_not_synced : (c1 c2 : Calls) → c1 ≡ over → IsLostSync c1 c2 1 → Since (LeavesCopy kept old) cs c2
    over_not_synced c1 c2 made is = since_then (LeavesCopy kept old) cs c1 c2 (over_made c1 made) (since_lost_sync (LeavesCopy kept old) (leaves_lost kept old) c1 c2 1 is (subst (λ (c : Calls). LeavesCopy kept old c) (sym made) over_leaves))

    pub over_synced : (c1 c2 : Calls) → c1 ≡ over → c2 ≡ (1, synced) ∷ c1 → Since (LeavesCopy kept old) cs c2
    over_synced c1 c2 made is = since_then (LeavesCopy kept old) cs c1 c2 (over_made c1 made)
        (since_made (LeavesCopy kept old) (leaves_lost kept old) c1 c2 (1, synced) is (subst (λ (c : Calls). LeavesCopy kept old c) is (spoiled_leaves kept old c2 (over_spoiled c1 c2 made is))))

-- ---- the log is cut

pub data_other : (f : ℕ) → is_data f ≡ true → 1 ≡ f → ⊥
data_other f isd is = let not : is_data 1 ≡ true = subst (λ g. is_data g ≡ true) (sym is) isd in absurd cc

data_file : (f : ℕ) → f ≤ 18 → (f ≡ 1 → ⊥) → is_data f ≡ true
data_file f low other = grind (arith, nat_tests, low, other)

module _ (kept : Files) (old cs : Calls) (there : AreCopied kept cs 18) where
  abbrev pub gone : Calls
  gone = (1, cut_to 0) ∷ cs

  data_there : (s : Step) (ims : Files) → Images ((1, s) ∷ cs) ims → (f : ℕ) → is_data f ≡ true → ims f ≡ kept f
  data_there s ims are f isd = there.each f isd (place_low f isd) (ims f) (subst (λ (l : List Step). Image l (ims f)) (of-other 1 f s cs (data_other f isd)) (are f))

  gone_leaves : IsSpoiled cs → LeavesCopy kept old gone
  gone_leaves spoiled = record {
    all = λ ims are. ⊎_elim
        (λ same. unusable (subst (λ (l : List ℕ). may_undo l ≡ false) (sym same) (spoiled.all (are 1).0 (are 1).1)))
        (λ cut. copied (record { log = cut; same = λ f low other. data_there (cut_to 0) ims are f (data_file f low other) }))
        (are 1).2;
  }

  pub gone_lost : (c1 : Calls) → IsSpoiled cs → IsLost cs c1 1 (cut_to 0) → Since (LeavesCopy kept old) cs c1
  gone_lost c1 spoiled is = since_lost (LeavesCopy kept old) (leaves_lost kept old) cs c1 1 (cut_to 0) is (gone_leaves spoiled)

  gone_made : (c1 : Calls) → IsSpoiled cs → c1 ≡ gone → Since (LeavesCopy kept old) cs c1
  gone_made c1 spoiled is = since_made (LeavesCopy kept old) (leaves_lost kept old) cs c1 (1, cut_to 0) is (gone_leaves spoiled)

  pub gone_not_synced : (c1 c2 : Calls) → IsSpoiled cs → c1 ≡ gone → IsLostSync c1 c2 1 → Since (LeavesCopy kept old) cs c2
  gone_not_synced c1 c2 spoiled made is = since_then (LeavesCopy kept old) cs c1 c2 (gone_made c1 spoiled made) (since_lost_sync (LeavesCopy kept old) (leaves_lost kept old) c1 c2 1 is (subst (λ (c : Calls). LeavesCopy kept old c) (sym made) (gone_leaves spoiled)))

  pub gone_copied : (c1 c2 : Calls) → c1 ≡ gone → c2 ≡ (1, synced) ∷ c1 → IsCopied kept c2
  gone_copied c1 c2 made is = subst (λ (c : Calls). IsCopied kept c) (sym (is ∙ ap (λ (c : Calls). (1, synced) ∷ c) made)) (record {
    all = λ ims are. record {
      log = are 1;
      same = λ f low other. let isd = data_file f low other in there.each f isd (place_low f isd) (ims f) (subst (λ (l : List Step). Image l (ims f)) (of-other 1 f synced gone (data_other f isd) ∙ of-other 1 f (cut_to 0) cs (data_other f isd)) (are f));
    };
  })

  pub gone_since : (c1 c2 : Calls) → IsSpoiled cs → c1 ≡ gone → c2 ≡ (1, synced) ∷ c1 → Since (LeavesCopy kept old) cs c2
  gone_since c1 c2 spoiled made is = since_then (LeavesCopy kept old) cs c1 c2 (gone_made c1 spoiled made)
      (since_made (LeavesCopy kept old) (leaves_lost kept old) c1 c2 (1, synced) is (subst (λ (c : Calls). LeavesCopy kept old c) is (record { all = λ ims are. copied ((gone_copied c1 c2 made is).all ims are) })))

-- ---- all of it

-- behind a spoiled log all images are unusable
pub spoiled_since : (kept : Files) (old a b : Calls) → IsSpoiled a → StaysSpoiled a b → Since (LeavesCopy kept old) a b
spoiled_since kept old a b spoiled stays = since_as IsSpoiled (LeavesCopy kept old) a b (spoiled_leaves kept old) (stays.moments spoiled)

module _ (kept : Files) (old : Calls) where
  each : (new : Calls) → Since (LeavesCopy kept old) old new → (t : ℕ) (ims : Files) → t ≤ length old → ImagesSince new t ims → ImagesSince old t ims ⊎ LeftOfCopy kept old ims
  each _ here t ims le some = inl some
  each _ (more c cs since leaves) t ims le some = ⊎_elim (λ are. inr (leaves.all ims are)) (λ earlier. each cs since t ims le earlier.1) some

  pub copy_moments : (new : Calls) → Since (LeavesCopy kept old) old new → CopyMoments kept old new
  copy_moments new since = record { later = since_later (LeavesCopy kept old) old new since; each = each new since }

-- a label was bound, and a copy was made under it
module _ (kept : Files) (label : List ℕ) (a b n : Named) (is : b.label ≡ Some label) (stays : n.label ≡ b.label) (same : b.copies ≡ a.copies) where
  label_is : label_of b ≡ label
  label_is = ap (λ (o : Option (List ℕ)). unwrap_or o []) is

  begins : copy_of b ≡ a.copies label
  begins = λ i. same i (label_is i)

  ends : copy_of n ≡ n.copies label
  ends = ap (λ (l : List ℕ). n.copies l) (ap (λ (o : Option (List ℕ)). unwrap_or o []) stays ∙ label_is)

  pub made_under : n.told ≡ a.told → Copies kept (copy_of b) (copy_of n) → ((l : List ℕ) → (l ≡ label_of b → ⊥) → n.copies l ≡ b.copies l) → MakesCopy kept label a n
  made_under told made others = record {
    told = told;
    moments = copy_moments kept (a.copies label) (n.copies label)
        (subst (λ (d : Calls). Since (LeavesCopy kept (a.copies label)) (a.copies label) d) ends (subst (λ (d : Calls). Since (LeavesCopy kept d) d (copy_of n)) begins made.moments));
    others = record { others = λ l other. others l (λ at. other (at ∙ label_is)) ∙ ap (λ (c : List ℕ → Calls). c l) same };
  }

  pub copied_under : IsCopied kept (copy_of n) → IsCopied kept (n.copies label)
  copied_under all = subst (λ (d : Calls). IsCopied kept d) ends all

-- a label wasn't bound
pub none_made : (kept : Files) (label : List ℕ) (a b : Named) → b.told ≡ a.told → b.copies ≡ a.copies → MakesCopy kept label a b
none_made kept label a b told same = record {
  told = told;
  moments = copy_moments kept (a.copies label) (b.copies label) (subst (λ (d : Calls). Since (LeavesCopy kept (a.copies label)) (a.copies label) d) (sym (ap (λ (c : List ℕ → Calls). c label) same)) here);
  others = record { others = λ l other. ap (λ (c : List ℕ → Calls). c l) same };
}
