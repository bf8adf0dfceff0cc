-- Calls on the pairs, as the trait of engines says them.
use Rattle.std.specs.Prelude.{◌≡◌, ℕ, Bool, true, false, List, Option, Some, None, option_map, unwrap_or, IfSome, Result, Ok, Err, OnErr, OnOk}
use Rattle.std.proofs.Common.{◌∙◌, refl, sym, ap, subst, inl, inr, ⊎_elim}
use Rattle.tc_base.specs.declared.seq.Pair.{Pair}
use Rattle.tc_space.specs.Frames.{OnlyReads, Reads, Refuses}
use Rattle.tc_space.specs.Stores.{Only}
use Rattle.tc_space.specs.Stores as stores
use Rattle.tc_space.specs.declared.space.Space.{Ghosts}
use Rattle.tc_model.specs.Contents.{Contents, tree}
use Rattle.ty_base.specs.Holding as base
use Rattle.ty_base.specs.Holding.{KeepsNumbers}
use Rattle.tc_engine.specs.Changes.{Change, wanted}
use Rattle.tc_engine.specs.Effects as effects
use Rattle.tc_engine.specs.Rows.{Adds}
use Rattle.tc_engine.specs.declared.rows.Rows.{Rows}
use Rattle.tc_treedb.specs.declared.holding.TreeEngine.{TreeEngine}
use Rattle.tc_treedb.specs.Filling.{Fills}
use Rattle.tc_treedb.specs.Holding.{Held, HoldsKept, HoldsPairs, Means}
use Rattle.tc_treedb.specs.Kept.{FillsTo, Finds, KeepsHead, Makes}
use Rattle.tc_treedb.specs.Laying.{kept_layout}
use Rattle.tc_treedb.specs.Layouts.{layout_of}
use Rattle.tc_treedb.specs.declared.kept.Kept.{Kept}
use Rattle.tc_treedb.specs.Reading.{bytes_in}

-- a change of contents is a step of the pairs, in whatever order
pub record IsStep (change : Change) (f : Held → Option (List Pair)) (m : Held) : Type 0 where
  pub is : change (tree false m.0 m.1) ≡ option_map (tree false m.0) (f m)

module _ {S : Type 0} (s : Ghosts S) where
  -- the pairs that are held
  pub means_of : (e : TreeEngine S) (a : S) (c : Contents) (h : base.Held s HoldsPairs e a c) → Means s e.kept a h.1.held
  means_of e a c h = (h.0, h.1.holds_it)

  pub ready_down : (e : TreeEngine S) (a : S) → base.IsReady s HoldsPairs e a → stores.IsReady s (Means s) e.kept a
  ready_down e a ready = record { sound = ready.sound; held = λ t. let h = ready.held t in (h.1.held, (t, h.1.holds_it)) }

  -- the tree was only looked at, and what was counted is as it was, or was counted of what is held
  pub counts_up : (e e' : TreeEngine S) (a b : S) → Reads s (Means s) e.kept e'.kept a b → ((m : Held) → Means s e.kept a m → IfSome e.total (λ n. n ≡ bytes_in m.1) → IfSome e'.total (λ n. n ≡ bytes_in m.1)) → Reads s (base.Held s HoldsPairs) e e' a b
  counts_up e e' a b reads counted = record {
    now = reads.now;
    touched = reads.touched;
    sound = reads.sound;
    means = λ c h. let m = reads.means h.1.held (means_of e a c h) in (m.0, record { held = h.1.held; is = h.1.is; holds_it = m.1; counted = counted h.1.held (means_of e a c h) h.1.counted });
  }

  pub reads_up : (e e' : TreeEngine S) (a b : S) → Reads s (Means s) e.kept e'.kept a b → e'.total ≡ e.total → Reads s (base.Held s HoldsPairs) e e' a b
  reads_up e e' a b reads total = counts_up e e' a b reads (λ m means counted. subst (λ t. IfSome t (λ n. n ≡ bytes_in m.1)) (sym total) counted)

  pub refuses_up : (e e' : TreeEngine S) (a b : S) → Refuses s (Means s) e.kept e'.kept a b → e'.total ≡ e.total → Refuses s (base.Held s HoldsPairs) e e' a b
  refuses_up e e' a b refuses total = ⊎_elim (λ spoiled. inl spoiled) (λ reads. inr (reads_up e e' a b reads total)) refuses

  pub refused_up : {T E : Type 0} (r : Result T E) (e e' : TreeEngine S) (a b : S) → OnErr r (Refuses s (Means s) e.kept e'.kept a b) → e'.total ≡ e.total → OnErr r (Refuses s (base.Held s HoldsPairs) e e' a b)
  refused_up (Ok x) e e' a b refused total = tt
  refused_up (Err x) e e' a b refused total = refuses_up e e' a b refused total

  -- nothing but the space was looked at
  pub only_reads_up : (e : TreeEngine S) (a b : S) → OnlyReads s a b → Reads s (base.Held s HoldsPairs) e e a b
  only_reads_up e a b reads = record {
    now = reads.files;
    touched = reads.untouched;
    sound = reads.is_sound;
    means = λ c h. (h.0, record { held = h.1.held; is = h.1.is; holds_it = subst (λ bytes. HoldsKept e.kept bytes h.1.held) (sym (reads.files h.0 0)) h.1.holds_it; counted = h.1.counted });
  }

  -- what is found of the pairs is found of the contents
  pub find_up : {A E : Type 0} (r : Result A E) (f : Held → A) (g : Contents → A) (e : TreeEngine S) (a : S) → ((m : Held) → f m ≡ g (tree false m.0 m.1)) → Finds s r f e.kept a → base.FindsHeld s HoldsPairs r g e a
  find_up (Ok x) f g e a same finds = λ c h. finds h.1.held (means_of e a c h) ∙ (same h.1.held ∙ ap g (sym h.1.is))
  find_up (Err y) f g e a same finds = tt

  -- and so it is of rows that were added
  pub adds_up : {T E : Type 0} (r : Result T E) (f : Held → List (List ℕ)) (g : Contents → List (List ℕ)) (e : TreeEngine S) (a : S) (old new : Rows) → ((m : Held) → f m ≡ g (tree false m.0 m.1)) → OnOk r ((m : Held) → Means s e.kept a m → Adds old new (f m)) → OnOk r (base.OfHeld s HoldsPairs e a (λ c. Adds old new (g c)))
  adds_up (Ok x) f g e a old new same adds = λ c h. subst (Adds old new) (same h.1.held ∙ ap g (sym h.1.is)) (adds h.1.held (means_of e a c h))
  adds_up (Err y) f g e a old new same adds = tt

  -- the numbers of the file are those that are held, before and behind
  pub head_numbers : (v v' : Kept S) (a b : S) (m n : Held) → KeepsHead v v' → Means s v a m → Means s v' b n → KeepsNumbers (layout_of (s.now a)) (layout_of (s.now b))
  head_numbers v v' a b m n same before now = kept_layout v v' (s.now a 0) (s.now b 0) m n before.1 now.1 same

  made_numbered : (f : Held → Option (List Pair)) (done : Bool) (v v' : Kept S) (a b : S) → Makes s f done v v' a b → (m : Held) → Means s v a m → KeepsNumbers (layout_of (s.now a)) (layout_of (s.now b))
  made_numbered f true v v' a b makes m means = let made = makes.made refl m means in head_numbers v v' a b m (m.0, made.0) makes.numbers means made.2
  made_numbered f false v v' a b makes m means = head_numbers v v' a b m m makes.numbers means ((makes.same refl).means m means)

  -- a step of the pairs is the change of the contents
  pub made_up : (change : Change) (f : Held → Option (List Pair)) (done : Bool) (e e' : TreeEngine S) (a b : S) → Makes s f done e.kept e'.kept a b → ((m : Held) → IsStep change f m)
      → ((m : Held) (qs : List Pair) → Means s e.kept a m → IfSome e.total (λ n. n ≡ bytes_in m.1) → f m ≡ Some qs → IfSome e'.total (λ n. n ≡ bytes_in qs)) → (done ≡ false → e'.total ≡ e.total) → effects.Makes s (Only 0) layout_of HoldsPairs change done e e' a b
  made_up change f done e e' a b makes is_step counted stays = record {
    sound = makes.sound;
    others = makes.others;
    numbered = λ c h. made_numbered f done e.kept e'.kept a b makes h.1.held (means_of e a c h);
    made = λ yes c h.
        let m : Held = h.1.held in
        let made = makes.made yes m (means_of e a c h) in (
          tree false m.0 made.0,
          ap change h.1.is ∙ (is_step m).is ∙ ap (option_map (tree false m.0)) made.1,
          (made.2.0, record { held = (m.0, made.0); is = refl; holds_it = made.2.1; counted = counted m made.0 (means_of e a c h) h.1.counted made.1 }),
        );
    fails = λ no c h. ap change h.1.is ∙ (is_step h.1.held).is ∙ ap (option_map (tree false h.1.held.0)) (makes.fails no h.1.held (means_of e a c h));
    same = λ no. reads_up e e' a b (makes.same no) (stays no);
  }

  wanted_is : (d : Bool) (ps : List Pair) (o : Option (List Pair)) → unwrap_or (option_map (tree false d) o) (tree false d ps) ≡ tree false d (unwrap_or o ps)
  wanted_is d ps None = refl
  wanted_is d ps (Some qs) = refl

  -- a limit on the way to the pairs is one on the way to the contents
  pub full_up : (change : Change) (f : Held → Option (List Pair)) (e : TreeEngine S) (a b : S) → FillsTo s (λ m. unwrap_or (f m) m.1) e.kept a b → ((m : Held) → IsStep change f m) → effects.IsFull s HoldsPairs (λ x a b. Fills s b) change e a b
  full_up change f e a b fills is_step = record {
    by = λ c h.
        let m : Held = h.1.held in
        let is : wanted change (tree false m.0 m.1) ≡ tree false m.0 (unwrap_or (f m) m.1) = ap (λ o. unwrap_or o (tree false m.0 m.1)) (is_step m).is ∙ wanted_is m.0 m.1 (f m) in
        subst (λ x. Fills s b x (wanted change x)) (sym h.1.is) (subst (λ y. Fills s b (tree false m.0 m.1) y) (sym is) (fills m (means_of e a c h)));
  }
