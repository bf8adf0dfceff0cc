-- Requests on keys as steps of the pairs.
use Rattle.std.proofs.Common.{◌≡◌, ◌∙◌, ℕ, Bool, true, false, cond, ◌&&◌, List, [], ◌∷◌, ◌++◌, length, refl, sym, ap, subst, arith}
use Rattle.std.specs.Prelude.{Option, Some, None, IfSome, fold, is_some, option_and_then, option_map, unwrap_or, nat_le}
use Rattle.std.specs.Cmp.{IsTotalOrder}
use Rattle.std.specs.Cmp.Lexicographic.{nat_list_cmp_total}
use Rattle.std.specs.List.{list_all}
use Rattle.std.proofs.lemmas.Map.Lookups.{CmpEqualImpliesEq, exact_bytes}
use Rattle.tc_base.specs.Lists.{first, with_first, with_last, without_first}
use Rattle.tc_base.specs.OrderLaws.{by_number_exact, by_number_total}
use Rattle.tc_base.specs.Orders.{order}
use Rattle.tc_base.specs.declared.kind.Mode.{Mode}
use Rattle.tc_base.specs.declared.kind.Mode.TheVariants.{Over, Keep, Cat}
use Rattle.tc_base.specs.declared.seq.Pair.{Pair}
use Rattle.tc_space.specs.Changes.{put_value}
use Rattle.tc_space.specs.Frames.{Writes, others_refl, reads_refl}
use Rattle.tc_space.specs.Stores.{Only}
use Rattle.tc_space.specs.declared.space.Space.{Ghosts}
use Rattle.tc_model.specs.Contents.{Contents, tree}
use Rattle.tc_model.specs.Stores.{put_last, size_of, store}
use Rattle.tc_model.specs.Values.{allowed}
use Rattle.ty_base.specs.Holding.{Held as HeldNow}
use Rattle.tc_hash.specs.Keeping.{at_most}
use Rattle.tc_engine.specs.Changes.{Change, all_cleared, all_gone, all_pushed, all_stored, pushed, stored, taken}
use Rattle.tc_engine.specs.Effects as effects
use Rattle.tc_treedb.specs.Changing.{AreLengths, each_cleared, each_pushed, each_set, is_short, pushed_in, put_in, stored_in, taken_in}
use Rattle.tc_treedb.specs.Counting.{IsCountedWith, IsCountedWithout, gone}
use Rattle.tc_treedb.specs.Holding.{Held, HoldsPairs, Means}
use Rattle.tc_treedb.specs.Filling.{Fills}
use Rattle.tc_treedb.specs.Kept.{CountsKept, FillsTo, KeepsHead, Makes, lead_kept}
use Rattle.tc_treedb.specs.Layouts.{layout_of}
use Rattle.tc_treedb.specs.Lifting.{IsStep, full_up, made_up}
use Rattle.tc_treedb.specs.Reading.{bytes_in}
use Rattle.tc_treedb.specs.declared.holding.TreeEngine.{TreeEngine}
use Rattle.tc_treedb.specs.declared.kept.Kept.{Kept}
use Rattle.tc_treedb.specs.declared.storing.Change.{Change as Lengths}
use Rattle.tc_treedb.proofs.Stepped.{clears, empties, pushes, stores, takes}
use Rattle.tc_treedb.proofs.Sums.{first_bytes, last_bytes, less_first_bytes}

pub order_total : (decimal : Bool) → IsTotalOrder (order decimal)
order_total false = nat_list_cmp_total
order_total true = by_number_total

pub order_exact : (decimal : Bool) → CmpEqualImpliesEq (order decimal)
order_exact false = exact_bytes
order_exact true = by_number_exact

-- ---- the step of a call, with texts that are the keys and values

pub is_stored : (mode : Mode) (key text value bytes : List ℕ) → text ≡ key → bytes ≡ value → (m : Held) → IsStep (stored mode key value) (λ n. stored_in (order n.0) mode text bytes n.1) m
is_stored mode key text value bytes same given m = record { is = stores mode key value m ∙ (λ i. option_map (λ qs. tree false m.0 qs) (stored_in (order m.0) mode (sym same i) (sym given i) m.1)) }

pub is_pushed : (key text value bytes : List ℕ) → text ≡ key → bytes ≡ value → (m : Held) → IsStep (pushed key value) (λ n. pushed_in (order n.0) text bytes n.1) m
is_pushed key text value bytes same given m = record { is = pushes key value m ∙ (λ i. option_map (λ qs. tree false m.0 qs) (pushed_in (order m.0) (sym same i) (sym given i) m.1)) }

pub is_taken : (key text : List ℕ) → text ≡ key → (m : Held) → IsStep (taken key) (λ n. taken_in (order n.0) text n.1) m
is_taken key text same m = record { is = takes key m ∙ (λ i. option_map (λ qs. tree false m.0 qs) (taken_in (order m.0) (sym same i) m.1)) }

pub is_cleared : (keys texts : List (List ℕ)) → texts ≡ keys → (m : Held) → IsStep (all_cleared keys) (λ n. Some (each_cleared (order n.0) texts n.1)) m
is_cleared keys texts same m = record { is = clears keys m ∙ (λ i. Some (tree false m.0 (each_cleared (order m.0) (sym same i) m.1))) }

pub is_emptied : (m : Held) → IsStep all_gone (λ n. Some []) m
is_emptied m = record { is = empties m }

-- ---- several

abbrev storing : Option Contents → List Pair → Option Contents
storing o ps = fold (λ o p. option_and_then (λ c. store Over c p.key p.value) o) o ps

storing_none : (ps : List Pair) → storing None ps ≡ None
storing_none [] = refl
storing_none (p ∷ ps) = storing_none ps

abbrev pushing : Option Contents → List Pair → Option Contents
pushing o ps = fold (λ o p. option_and_then (λ c. put_last c p.key p.value) o) o ps

pushing_none : (ps : List Pair) → pushing None ps ≡ None
pushing_none [] = refl
pushing_none (p ∷ ps) = pushing_none ps

stored_each : (d : Bool) (pairs ps : List Pair) → storing (Some (tree false d ps)) pairs ≡ cond (list_all is_short pairs) (Some (tree false d (each_set (order d) pairs ps))) None
stored_each d [] ps = refl
stored_each d (p ∷ pairs) ps =
    elim (is_short p) as (λ b. storing (option_map (λ v. tree false d (with_first (order d) ps p.key v)) (cond b (Some p.value) None)) pairs ≡ cond (b && list_all is_short pairs) (Some (tree false d (each_set (order d) pairs (with_first (order d) ps p.key p.value)))) None) [
      | true ↦ stored_each d pairs (with_first (order d) ps p.key p.value)
      | false ↦ storing_none pairs
    ]

pushed_each : (d : Bool) (pairs ps : List Pair) → pushing (Some (tree false d ps)) pairs ≡ cond (list_all is_short pairs) (Some (tree false d (each_pushed (order d) pairs ps))) None
pushed_each d [] ps = refl
pushed_each d (p ∷ pairs) ps =
    elim (is_short p) as (λ b. pushing (option_map (λ v. tree false d (with_last (order d) ps p.key v)) (cond b (Some p.value) None)) pairs ≡ cond (b && list_all is_short pairs) (Some (tree false d (each_pushed (order d) pairs (with_last (order d) ps p.key p.value)))) None) [
      | true ↦ pushed_each d pairs (with_last (order d) ps p.key p.value)
      | false ↦ pushing_none pairs
    ]

short_is : (pairs texts : List Pair) (b : Bool) → texts ≡ pairs → b ≡ list_all is_short texts → list_all is_short pairs ≡ b
short_is pairs texts b same short = sym (short ∙ ap (list_all is_short) same)

pub is_set_each : (pairs texts : List Pair) (b : Bool) → texts ≡ pairs → b ≡ list_all is_short texts → b ≡ true → (m : Held) → IsStep (all_stored pairs) (λ n. Some (each_set (order n.0) texts n.1)) m
is_set_each pairs texts b same short so m = record {
  is = stored_each m.0 pairs m.1 ∙ (ap (λ x. cond x (Some (tree false m.0 (each_set (order m.0) pairs m.1))) None) (short_is pairs texts b same short ∙ so) ∙ (λ i. Some (tree false m.0 (each_set (order m.0) (sym same i) m.1))));
}

pub is_set_none : (pairs texts : List Pair) (b : Bool) → texts ≡ pairs → b ≡ list_all is_short texts → b ≡ false → (m : Held) → IsStep (all_stored pairs) (λ n. None) m
is_set_none pairs texts b same short so m = record { is = stored_each m.0 pairs m.1 ∙ ap (λ x. cond x (Some (tree false m.0 (each_set (order m.0) pairs m.1))) None) (short_is pairs texts b same short ∙ so) }

pub is_pushed_each : (pairs texts : List Pair) (b : Bool) → texts ≡ pairs → b ≡ list_all is_short texts → b ≡ true → (m : Held) → IsStep (all_pushed pairs) (λ n. Some (each_pushed (order n.0) texts n.1)) m
is_pushed_each pairs texts b same short so m = record {
  is = pushed_each m.0 pairs m.1 ∙ (ap (λ x. cond x (Some (tree false m.0 (each_pushed (order m.0) pairs m.1))) None) (short_is pairs texts b same short ∙ so) ∙ (λ i. Some (tree false m.0 (each_pushed (order m.0) (sym same i) m.1))));
}

pub is_pushed_none : (pairs texts : List Pair) (b : Bool) → texts ≡ pairs → b ≡ list_all is_short texts → b ≡ false → (m : Held) → IsStep (all_pushed pairs) (λ n. None) m
is_pushed_none pairs texts b same short so m = record { is = pushed_each m.0 pairs m.1 ∙ ap (λ x. cond x (Some (tree false m.0 (each_pushed (order m.0) pairs m.1))) None) (short_is pairs texts b same short ∙ so) }

-- ---- bytes counted on

abbrev pub Counted : Option ℕ → List Pair → Type 0
Counted total ps = IfSome total (λ n. n ≡ bytes_in ps)

total_is : (total : Option ℕ) (t : ℕ) (ps : List Pair) → total ≡ Some t → Counted total ps → t ≡ bytes_in ps
total_is total t ps is counted = subst (λ o. Counted o ps) is counted

some_is : {A : Type 0} (a b : A) → Some a ≡ Some b → b ≡ a
some_is a b e = let same : a ≡ b = cc in sym same

never_some : {A : Type 0} (b : A) → None ≡ Some b → ⊥
never_some b e = cc

allowed_some : {A : Type 0} (f : List ℕ → A) (v : List ℕ) (q : A) → option_map f (allowed v) ≡ Some q → q ≡ f v
allowed_some {A} f v q is = go (nat_le (length v) 16777216) is
  where
    go : (b : Bool) → option_map f (cond b (Some v) None) ≡ Some q → q ≡ f v
    go true e = some_is (f v) q e
    go false e = absurd (never_some q e)

-- what is put in the place of a first value
put_is : (d : Bool) (mode : Mode) (key value : List ℕ) (ps qs : List Pair) → stored_in (order d) mode key value ps ≡ Some qs → qs ≡ with_first (order d) ps key (put_value mode (first ps key) value)
put_is d Over key value ps qs is = allowed_some (λ v. with_first (order d) ps key v) value qs is
put_is d Keep key value ps qs is = go (is_some (first ps key)) is
  where
    go : (b : Bool) → cond b None (put_in (order d) key value ps) ≡ Some qs → qs ≡ with_first (order d) ps key value
    go true e = absurd (never_some qs e)
    go false e = allowed_some (λ v. with_first (order d) ps key v) value qs e
put_is d Cat key value ps qs is = allowed_some (λ v. with_first (order d) ps key v) (unwrap_or (first ps key) [] ++ value) qs is

push_is : (d : Bool) (key value : List ℕ) (ps qs : List Pair) → pushed_in (order d) key value ps ≡ Some qs → qs ≡ with_last (order d) ps key value
push_is d key value ps qs is = allowed_some (λ v. with_last (order d) ps key v) value qs is

take_is : (d : Bool) (key : List ℕ) (ps qs : List Pair) → taken_in (order d) key ps ≡ Some qs → qs ≡ without_first (order d) ps key
take_is d key ps qs is = go (is_some (first ps key)) is
  where
    go : (b : Bool) → cond b (Some (without_first (order d) ps key)) None ≡ Some qs → qs ≡ without_first (order d) ps key
    go true e = some_is (without_first (order d) ps key) qs e
    go false e = absurd (never_some qs e)

pub counted_put : (total now : Option ℕ) (mode : Mode) (key value : List ℕ) (long : ℕ) (l : Lengths) (m : Held) (qs : List Pair) → long ≡ length key → AreLengths mode key value l m.1 → stored_in (order m.0) mode key value m.1 ≡ Some qs → Counted total m.1
    → IfSome now (λ n. IsCountedWith long l.old total l.len n) → Counted now qs
counted_put total None mode key value long l m qs is_long lengths step counted sum = tt
counted_put total (Some n) mode key value long l m qs is_long lengths step counted sum =
    let v : List ℕ = put_value mode (first m.1 key) value in
    let law = first_bytes (order m.0) (order_total m.0) (order_exact m.0) m.1 key v in
    let was = total_is total sum.0 m.1 sum.1 counted in
    let out : gone long l.old ≡ gone (length key) (option_map length (first m.1 key)) = λ i. gone (is_long i) (lengths.0 i) in
    let len = lengths.1 in
    let all = sum.2 in
    let here : n ≡ bytes_in (with_first (order m.0) m.1 key v) = omega (arith, law, was, out, len, all, is_long) in
    here ∙ ap bytes_in (sym (put_is m.0 mode key value m.1 qs step))

pub counted_push : (total now : Option ℕ) (key value : List ℕ) (long size : ℕ) (m : Held) (qs : List Pair) → long ≡ length key → size ≡ length value → pushed_in (order m.0) key value m.1 ≡ Some qs → Counted total m.1 → IfSome now (λ n. IsCountedWith long None total size n) → Counted now qs
counted_push total None key value long size m qs is_long is_size step counted sum = tt
counted_push total (Some n) key value long size m qs is_long is_size step counted sum =
    let law = last_bytes (order m.0) (order_total m.0) (order_exact m.0) m.1 key value in
    let was = total_is total sum.0 m.1 sum.1 counted in
    let all = sum.2 in
    let here : n ≡ bytes_in (with_last (order m.0) m.1 key value) = omega (arith, law, was, all, is_long, is_size) in
    here ∙ ap bytes_in (sym (push_is m.0 key value m.1 qs step))

pub counted_take : (total now : Option ℕ) (key : List ℕ) (long : ℕ) (old : Option ℕ) (m : Held) (qs : List Pair) → long ≡ length key → old ≡ option_map length (first m.1 key) → taken_in (order m.0) key m.1 ≡ Some qs → Counted total m.1 → IfSome now (λ n. IsCountedWithout long old total n) → Counted now qs
counted_take total None key long old m qs is_long is_old step counted sum = tt
counted_take total (Some n) key long old m qs is_long is_old step counted sum =
    let law = less_first_bytes (order m.0) (order_total m.0) (order_exact m.0) m.1 key in
    let was = total_is total sum.0 m.1 sum.1 counted in
    let out : gone long old ≡ gone (length key) (option_map length (first m.1 key)) = λ i. gone (is_long i) (is_old i) in
    let all = sum.2 in
    let here : n ≡ bytes_in (without_first (order m.0) m.1 key) = omega (arith, law, was, out, all) in
    here ∙ ap bytes_in (sym (take_is m.0 key m.1 qs step))

-- ---- calls

module _ {S : Type 0} (s : Ghosts S) where
  -- nothing is done
  pub makes_no : (change : Change) (e : TreeEngine S) (a : S) → s.sound a → ((m : Held) → IsStep change (λ n. None) m) → effects.Makes s (Only 0) layout_of HoldsPairs change false e e a a
  makes_no change e a sound is = made_up s change (λ n. None) false e e a a
      (record {
        sound = sound;
        others = others_refl s (Only 0) a;
        numbers = record { same = refl; lead = at_most (lead_kept e.kept) (lead_kept e.kept) refl; limits = record { order = refl; leaf = refl; node = refl } };
        made = λ yes. absurd cc;
        fails = λ no_one m h. refl;
        same = λ no_one. reads_refl s (Means s) e.kept a sound;
      })
      is (λ m qs h counted step. absurd (never_some qs step)) (λ none. refl)

  -- a step that fails
  pub made_none : (change : Change) (f : Held → Option (List Pair)) (e e' : TreeEngine S) (a b : S) → Makes s f false e.kept e'.kept a b → ((m : Held) → IsStep change f m) → e'.total ≡ e.total → effects.Makes s (Only 0) layout_of HoldsPairs change false e e' a b
  made_none change f e e' a b makes is stays = made_up s change f false e e' a b makes is (λ m qs h counted step. absurd (never_some qs (sym (makes.fails refl m h) ∙ step))) (λ none. stays)

  -- all was done that was to be
  made_all : (g : Held → List Pair) (v v' : Kept S) (a b : S) → KeepsHead v v' → Writes s (Only 0) (Means s) (λ m. (m.0, g m)) v v' a b → Makes s (λ m. Some (g m)) true v v' a b
  made_all g v v' a b head writes = record {
    sound = writes.sound;
    others = writes.others;
    numbers = head;
    made = λ yes m h. (g m, refl, writes.means m h);
    fails = λ none. absurd cc;
    same = λ none. absurd cc;
  }

  counts_all : (g : Held → List Pair) (total now : Option ℕ) (v : Kept S) (a : S) (m : Held) (qs : List Pair) → Means s v a m → IfSome now (CountsKept s g total v a) → Counted total m.1 → Some (g m) ≡ Some qs → Counted now qs
  counts_all g total None v a m qs h counts counted step = tt
  counts_all g total (Some n) v a m qs h counts counted step = counts.2 m h (total_is total counts.0 m.1 counts.1 counted) ∙ ap bytes_in (sym (some_is (g m) qs step))

  pub makes_all : (change : Change) (g : Held → List Pair) (e e' : TreeEngine S) (a b : S) → ((m : Held) → IsStep change (λ n. Some (g n)) m) → KeepsHead e.kept e'.kept → Writes s (Only 0) (Means s) (λ m. (m.0, g m)) e.kept e'.kept a b → IfSome e'.total (CountsKept s g e.total e.kept a)
      → effects.Makes s (Only 0) layout_of HoldsPairs change true e e' a b
  makes_all change g e e' a b is head writes counts = made_up s change (λ n. Some (g n)) true e e' a b (made_all g e.kept e'.kept a b head writes) is (λ m qs h counted step. counts_all g e.total e'.total e.kept a m qs h counts counted step) (λ none. absurd cc)

  -- all pairs went
  pub makes_emptied : (e e' : TreeEngine S) (a b : S) → e'.total ≡ Some 0 → KeepsHead e.kept e'.kept → Writes s (Only 0) (Means s) (λ m. (m.0, [])) e.kept e'.kept a b → effects.Makes s (Only 0) layout_of HoldsPairs all_gone true e e' a b
  makes_emptied e e' a b total head writes = made_up s all_gone (λ n. Some []) true e e' a b (made_all (λ m. []) e.kept e'.kept a b head writes) is_emptied
      (λ m qs h counted step. subst (λ o. Counted o qs) (sym total) (ap bytes_in (some_is qs [] (sym step)))) (λ none. absurd cc)

  pub full_all : (change : Change) (g : Held → List Pair) (e : TreeEngine S) (a b : S) → ((m : Held) → IsStep change (λ n. Some (g n)) m) → FillsTo s g e.kept a b → effects.IsFull s HoldsPairs (λ x a b. Fills s b) change e a b
  full_all change g e a b is full = full_up s change (λ n. Some (g n)) e a b full is

  -- what was counted is told
  pub size_told : (e : TreeEngine S) (a : S) (n : ℕ) (c : Contents) → e.total ≡ Some n → HeldNow s HoldsPairs e a c → n ≡ size_of c
  size_told e a n c is h = total_is e.total n h.1.held.1 is h.1.counted ∙ ap size_of (sym h.1.is)

  -- what was told of an answer, by what it is
  pub makes_at : {A : Type 0} {f : Held → Option (List Pair)} {v v' : Kept S} {a b : S} {x : A} (o : Option A) → o ≡ Some x → Makes s f (is_some o) v v' a b → Makes s f true v v' a b
  makes_at {f = f} {v = v} {v' = v'} {a = a} {b = b} o is makes = subst (λ (d : Bool). Makes s f d v v' a b) (ap is_some is) makes

  pub makes_none_at : {A : Type 0} {f : Held → Option (List Pair)} {v v' : Kept S} {a b : S} (o : Option A) → o ≡ None → Makes s f (is_some o) v v' a b → Makes s f false v v' a b
  makes_none_at {f = f} {v = v} {v' = v'} {a = a} {b = b} o is makes = subst (λ (d : Bool). Makes s f d v v' a b) (ap is_some is) makes

pub lengths_at : {A : Type 0} (P : A → Type 0) (o : Option A) (x : A) → o ≡ Some x → IfSome o P → P x
lengths_at {A} P o x is told = subst (λ (q : Option A). IfSome q P) is told
