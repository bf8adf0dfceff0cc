-- Runs of calls: syncs, zeros, and one data file given its length.
use Rattle.std.proofs.Common.{◌≡◌, ⊎_elim, ℕ, zero, ◌+◌, ◌-◌, ◌≤◌, List, ◌∷◌, ◌++◌, length, take, replicate, refl, sym, ◌∙◌, ap, subst, arith, true, append_assoc}
use Rattle.std.proofs.lemmas.Bool.{cases_eq}
use Rattle.std.proofs.lemmas.List.{length-replicate, places, append-nil, take_all, drop_all, same_lists}
use Rattle.std.proofs.lemmas.Bool.Decides.{nat_tests}
use Rattle.tc_base.specs.Files.{Files, resized, wrote}
use Rattle.tc_io.specs.Images.{Step, written, synced, cut_to, reads, Image, Calls, of, now, Images, IsLost}
use Rattle.ud_log.specs.Entries.{Entry}
use Rattle.ud_log.specs.Undo.{is_data}
use Rattle.ud_state.specs.State.{AllUndo, Replay, NoLonger, Durable, LogOnly, SyncOnly, Filled, Resized, FillsQuietly, ResizesQuietly}
use Rattle.ud_state.specs.Since.{quiet_then, quiet_same}
use Rattle.ud_state.proofs.Transaction.{of-same, of-other}
use Rattle.ud_state.proofs.Taken.{quiet_made, quiet_lost}
use Rattle.ud_state.proofs.Open.{tx_sync}
use Rattle.ud_state.proofs.Replaying.{replay_undo, fill_replay, fill_longer, cut_replay, sync_replay}

pub log_only_refl : (a : Calls) → LogOnly a a
log_only_refl a = record { same = λ f isd. refl }

pub log_only_then : (a b c : Calls) → LogOnly a b → LogOnly b c → LogOnly a c
log_only_then a b c first second = record { same = λ f isd. second.same f isd ∙ first.same f isd }

data_one : (f : ℕ) → is_data f ≡ true → 1 ≡ f → ⊥
data_one f isd one = absurd (grind (arith, nat_tests))

pub log_only_made : (cs c1 : Calls) (s : Step) → c1 ≡ (1, s) ∷ cs → LogOnly cs c1
log_only_made cs c1 s is = record { same = λ f isd. ap (of f) is ∙ of-other 1 f s cs (data_one f isd) }

-- ---- syncs

pub sync_only_refl : (a : Calls) → SyncOnly a a
sync_only_refl a = record { reads = λ f. refl; log = refl; durable = λ f isd d. d; tx = λ kept es t. t; replay = λ result lens es r. r }

pub sync_only_then : (a b c : Calls) → SyncOnly a b → SyncOnly b c → SyncOnly a c
sync_only_then a b c first second = record {
  reads = λ f. second.reads f ∙ first.reads f;
  log = second.log ∙ first.log;
  durable = λ f isd d. second.durable f isd (first.durable f isd d);
  tx = λ kept es t. second.tx kept es (first.tx kept es t);
  replay = λ result lens es r. second.replay result lens es (first.replay result lens es r);
}

pub sync_reads : (cs : Calls) (f g : ℕ) → now ((f, synced) ∷ cs) g ≡ now cs g
sync_reads cs f g = ⊎_elim
    (λ same. subst (λ h. now ((f, synced) ∷ cs) h ≡ now cs h) same (ap reads (of-same f synced cs)))
    (λ other. ap reads (of-other f g synced cs other))
    (cases_eq f g)

pub sync_durable : (cs : Calls) (f : ℕ) → Durable ((f, synced) ∷ cs) f
sync_durable cs f i image = subst (λ (l : List Step). Image l i → i ≡ reads l) (sym (of-same f synced cs)) (λ is. is) image

pub durable_other : (cs : Calls) (f g : ℕ) (s : Step) → (f ≡ g → ⊥) → Durable cs g → Durable ((f, s) ∷ cs) g
durable_other cs f g s other d = subst (λ (l : List Step). (i : List ℕ) → Image l i → i ≡ reads l) (sym (of-other f g s cs other)) d

pub sync_only_made : (cs c1 : Calls) (f : ℕ) → is_data f ≡ true → Images cs (now cs) → c1 ≡ (f, synced) ∷ cs → SyncOnly cs c1
sync_only_made cs c1 f isd image is = subst (λ (c : Calls). SyncOnly cs c) (sym is) (record {
  reads = sync_reads cs f;
  log = of-other f 1 synced cs (λ one. data_one f isd (sym one));
  durable = λ g isg d. ⊎_elim (λ same. subst (λ h. Durable ((f, synced) ∷ cs) h) same (sync_durable cs f)) (λ other. durable_other cs f g synced other d) (cases_eq f g);
  tx = λ kept es t. tx_sync cs kept es f t isd;
  replay = λ result lens es r. sync_replay cs result lens es f r isd image;
})

-- ---- zeros

pub filled_refl : (a : Calls) (file from : ℕ) → Filled a a file from from
filled_refl a file from = record {
  grown = λ long. sym (append-nil (now a file)) ∙ ap (λ k. now a file ++ replicate k 0) none;
  longer = λ l. l;
  others = λ g other. refl;
  replay = λ result lens es r l. r;
}
  where
    none : zero ≡ from - from
    none = omega arith

abbrev zeros : ℕ → List ℕ
zeros n = replicate n 0

replicate_more : (n m : ℕ) → zeros n ++ zeros m ≡ zeros (n + m)
replicate_more n m = same_lists _ _ (grind (arith, places, length-replicate {A = ℕ})) (λ k x low. grind (arith, places, length-replicate {A = ℕ}))

pub filled_then : (a b c : Calls) (file from mid to : ℕ) → from ≤ mid → mid ≤ to → Filled a b file from mid → Filled b c file mid to → Filled a c file from to
filled_then a b c file from mid to low high first second = record {
  grown = λ long.
      let here : length (now b file) ≡ mid = ap length (first.grown long) ∙ long_there (now a file) (mid - from) ∙ omega (arith, long, low) in
      let all : (mid - from) + (to - mid) ≡ to - from = omega (arith, low, high) in
      second.grown here ∙ ap (λ (l : List ℕ). l ++ replicate (to - mid) 0) (first.grown long) ∙ append_assoc (now a file) (replicate (mid - from) 0) (replicate (to - mid) 0) ∙ ap (λ (l : List ℕ). now a file ++ l) (replicate_more (mid - from) (to - mid)) ∙ ap (λ k. now a file ++ replicate k 0) all;
  longer = λ l. second.longer (first.longer l);
  others = λ g other. second.others g other ∙ first.others g other;
  replay = λ result lens es r l. second.replay result lens es (first.replay result lens es r l) (first.longer l);
}
  where
    long_there : (l : List ℕ) (n : ℕ) → length (l ++ replicate n 0) ≡ length l + n
    long_there l n = grind (arith, places, length-replicate {A = ℕ})

wrote_end : (bytes old : List ℕ) (at : ℕ) → length old ≡ at → wrote at bytes old ≡ old ++ bytes
unfolding wrote
wrote_end bytes old at is =
    (λ i. take_all at old (omega (arith, is)) i ++ bytes ++ drop_all (at + length bytes) old (omega (arith, is)) i) ∙ append-nil (old ++ bytes)

now_at : (cs : Calls) (f : ℕ) (s : Step) → now ((f, s) ∷ cs) f ≡ reads (s ∷ of f cs)
now_at cs f s = ap reads (of-same f s cs)

module _ (cs c1 : Calls) (f most n : ℕ) (bytes : List ℕ) (isd : is_data f ≡ true) (zeros : bytes ≡ replicate n 0) where
  step : (f, written most bytes) ∷ cs ≡ (f, written most (replicate n 0)) ∷ cs
  step = λ i. (f, written most (zeros i)) ∷ cs

  pub filled_made : c1 ≡ (f, written most bytes) ∷ cs → Filled cs c1 f most (most + n)
  filled_made is = subst (λ (c : Calls). Filled cs c f most (most + n)) (sym (is ∙ step)) (record {
    grown = λ long. now_at cs f (written most (replicate n 0)) ∙ wrote_end (replicate n 0) (now cs f) most long ∙ ap (λ k. now cs f ++ replicate k 0) count;
    longer = fill_longer cs f most n;
    others = λ g other. of-other f g (written most (replicate n 0)) cs other;
    replay = λ result lens es r l. fill_replay cs result lens es f most n r isd l;
  })
    where
      count : n ≡ most + n - most
      count = omega arith

  module _ (image : Images cs (now cs)) (image1 : Images c1 (now c1)) where
    fill_undo : (result : Files) (lens : List ℕ) (es : List Entry) → Replay cs result lens es → NoLonger cs f most → AllUndo ((f, written most bytes) ∷ cs) result
    fill_undo result lens es r l = subst (λ (c : Calls). AllUndo c result) (sym step) (replay_undo _ result lens es (fill_replay cs result lens es f most n r isd l))

    pub fills_made : c1 ≡ (f, written most bytes) ∷ cs → FillsQuietly cs c1 f most
    fills_made is = record { quiet = λ result lens es r l. quiet_made cs c1 image image1 result (replay_undo cs result lens es r) f (written most bytes) is (fill_undo result lens es r l) }

    pub fills_lost : IsLost cs c1 f (written most bytes) → FillsQuietly cs c1 f most
    fills_lost is = record { quiet = λ result lens es r l. quiet_lost cs c1 image image1 result (replay_undo cs result lens es r) f (written most bytes) is (fill_undo result lens es r l) }

pub fills_refl : (a : Calls) (file from : ℕ) → FillsQuietly a a file from
fills_refl a file from = record { quiet = λ result lens es r l. quiet_same a a refl }

pub fills_then : (a b c : Calls) (file from mid : ℕ) → FillsQuietly a b file from → Filled a b file from mid → FillsQuietly b c file mid → FillsQuietly a c file from
fills_then a b c file from mid first made second = record {
  quiet = λ result lens es r l. quiet_then a b c (first.quiet result lens es r l) (second.quiet result lens es (made.replay result lens es r l) (made.longer l));
}

-- ---- a file given its length

no_longer : (cs : Calls) (f : ℕ) → Durable cs f → NoLonger cs f (length (now cs f))
no_longer cs f d i image = omega (arith, ap length (d i image))

resized_up : (n : ℕ) (l : List ℕ) → length l ≤ n → l ++ replicate (n - length l) 0 ≡ resized n l
unfolding resized
resized_up n l le = ap (λ (x : List ℕ). x ++ replicate (n - length l) 0) (sym (take_all n l le))

resized_down : (n : ℕ) (l : List ℕ) → n ≤ length l → take n l ≡ resized n l
unfolding resized
resized_down n l le = let none : zero ≡ n - length l = omega (arith, le) in sym (append-nil (take n l)) ∙ ap (λ k. take n l ++ replicate k 0) none

pub resized_filled : (cs c1 : Calls) (f len : ℕ) → length (now cs f) ≤ len → Filled cs c1 f (length (now cs f)) len → Resized cs c1 f len
resized_filled cs c1 f len le filled = record {
  reads = filled.grown refl ∙ resized_up len (now cs f) le;
  others = filled.others;
  replay = λ result lens es r d is. filled.replay result lens es r (no_longer cs f d);
}

pub resizes_filled : (cs c1 : Calls) (f len : ℕ) → FillsQuietly cs c1 f (length (now cs f)) → ResizesQuietly cs c1 f len
resizes_filled cs c1 f len fills = record { quiet = λ result lens es r d is. fills.quiet result lens es r (no_longer cs f d) }

module _ (cs c1 : Calls) (f len : ℕ) (isd : is_data f ≡ true) where
  cut_there : (result : Files) (lens : List ℕ) (es : List Entry) → Replay cs result lens es → length (result f) ≡ len → Replay ((f, cut_to len) ∷ cs) result lens es
  cut_there result lens es r is = cut_replay cs result lens es f len r isd (omega (arith, is))

  pub resized_cut : len ≤ length (now cs f) → c1 ≡ (f, cut_to len) ∷ cs → Resized cs c1 f len
  resized_cut le is = subst (λ (c : Calls). Resized cs c f len) (sym is) (record {
    reads = now_at cs f (cut_to len) ∙ resized_down len (now cs f) le;
    others = λ g other. of-other f g (cut_to len) cs other;
    replay = λ result lens es r d is. cut_there result lens es r is;
  })

  module _ (image : Images cs (now cs)) (image1 : Images c1 (now c1)) where
    pub resizes_made : c1 ≡ (f, cut_to len) ∷ cs → ResizesQuietly cs c1 f len
    resizes_made is = record { quiet = λ result lens es r d ends. quiet_made cs c1 image image1 result (replay_undo cs result lens es r) f (cut_to len) is (replay_undo _ result lens es (cut_there result lens es r ends)) }

    pub resizes_lost : IsLost cs c1 f (cut_to len) → ResizesQuietly cs c1 f len
    resizes_lost is = record { quiet = λ result lens es r d ends. quiet_lost cs c1 image image1 result (replay_undo cs result lens es r) f (cut_to len) is (replay_undo _ result lens es (cut_there result lens es r ends)) }

pub resizes_same : (cs c1 : Calls) (f len : ℕ) → c1 ≡ cs → ResizesQuietly cs c1 f len
resizes_same cs c1 f len is = record { quiet = λ result lens es r d ends. quiet_same cs c1 is }

pub durable_of : (cs c1 : Calls) (f : ℕ) → of f c1 ≡ of f cs → Durable cs f → Durable c1 f
durable_of cs c1 f same d = subst (λ (l : List Step). (i : List ℕ) → Image l i → i ≡ reads l) (sym same) d

pub not_log : (f : ℕ) → is_data f ≡ true → f ≡ 1 → ⊥
not_log f isd one = data_one f isd (sym one)
