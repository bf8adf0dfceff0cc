-- The calls that scan leaves.
use Rattle.std.proofs.Common.{◌≡◌, ◌≢◌, ℕ, zero, suc, ◌+◌, ◌-◌, ◌<◌, ◌≤◌, List, [], ◌∷◌, length, take, refl, sym, ap, ◌∙◌, subst, ⊎_elim, arith}
use Rattle.std.specs.FinMap.{get}
use Rattle.std.specs.declared.cmp.Ordering.{Ordering}
use Rattle.std.specs.Cmp.{IsTotalOrder}
use Rattle.std.proofs.lemmas.Bool.{cases_eq}
use Rattle.std.proofs.lemmas.Map.Lookups.{CmpEqualImpliesEq}
use Rattle.tc_base.specs.Maps.{Map}
use Rattle.tc_base.specs.Orders.{NeverFalls}
use Rattle.tc_base.specs.declared.order.Order.{Ghosts as Orders}
use Rattle.tc_base.specs.declared.order.Side.{Side}
use Rattle.tc_base.specs.declared.seq.Pair.{Pair}
use Rattle.tc_space.specs.Changes.{inside, inside_first}
use Rattle.tc_space.specs.Stores.{Ticks, ticks_then}
use Rattle.tc_space.specs.declared.records.Records.{Ghosts as Stores}
use Rattle.tc_space.specs.declared.space.Space.{Ghosts}
use Rattle.bt_rows.specs.declared.page.Page.TheVariants.{Leaf as leaf_page}
use Rattle.bt_rows.specs.Orders.{before_by}
use Rattle.bt_rows.specs.Rules.{leaf_pairs}
use Rattle.bt_cache.specs.Held.{Beside, IsThere, ReadyBeside}
use Rattle.bt_cache.specs.Shared.{IsSomeLeaf}
use Rattle.bt_tree.specs.declared.tree.Tree.{Tree}
use Rattle.bt_tree.specs.Costs.{looks_then}
use Rattle.bt_tree.specs.Finding.{LeadsTo}
use Rattle.bt_tree.specs.Meaning.{AnswersPairs, IsOpen}
use Rattle.bt_tree.specs.Ranging.{FewPages, IsScanned, Scans, ScansLeaf, leaves_inside, start_of}
use Rattle.bt_tree.specs.Trees.{HoldsPairs}
use Rattle.bt_tree.specs.Visits.{LooksAt, StaysTree, Visits, stays_then}
use Rattle.bt_tree.proofs.Finds.{tree_reads}
use Rattle.bt_tree.proofs.Scans.{Going, Further, going_first, going_page, going_ascends, going_end, going_on, inside_front, inside_one}
use Rattle.bt_tree.proofs.Stretches.{scanned_some, scanned_has}

-- how many pairs are still wanted, none at the end
abbrev pub wanted : ℕ → ℕ → ℕ → ℕ
wanted zero max n = 0
wanted (suc next) max n = max - n

pub wanted_less : (next next' max n n' : ℕ) → next ≢ 0 → n < max → (next' ≢ 0 → n < n') → wanted next' max n' < wanted next max n
wanted_less zero next' max n n' some room more = absurd (some refl)
wanted_less (suc next) zero max n n' some room more = omega (arith, room)
wanted_less (suc next) (suc next') max n n' some room more = omega (arith, room, more (λ e. omega (arith, e)))

-- nothing was written, however many pages were read
pub record Passes {S V O : Type 0} (s : Ghosts S) (R : Stores V S) (t u : Tree V O) (steps steps' : ℕ) (old new : S) : Type 0 where
  pub looks : LooksAt s R t u old new
  pub ticks : Ticks (R.gets t.store) (R.gets u.store) steps steps'
  pub stays : StaysTree t u

module _ {S V O : Type 0} (s : Ghosts S) (R : Stores V S) where
  pub passes_of : (most : ℕ) (t u : Tree V O) (steps steps' : ℕ) (old new : S) → Visits s R most t u steps steps' old new → Passes s R t u steps steps' old new
  passes_of most t u steps steps' old new v = record { looks = v.looks; ticks = v.pages.ticks; stays = v.stays }

  pub passes_then : (t u w : Tree V O) (a b c : ℕ) (x y z : S) → Passes s R t u a b x y → Passes s R u w b c y z → Passes s R t w a c x z
  passes_then t u w a b c x y z first second = record {
    looks = looks_then s R t.cache u.cache w.cache t.store u.store w.store x y z first.looks second.looks;
    ticks = ticks_then _ _ _ _ _ _ first.ticks second.ticks;
    stays = stays_then t u w first.stays second.stays;
  }

  pub scans_of : (o : Orders O) (t u : Tree V O) (steps steps' : ℕ) (old new : S) → Passes s R t u steps steps' old new → Scans s R o t u steps steps' old new
  scans_of o t u steps steps' old new p = record {
    reads = tree_reads s R o t u old new p.looks.reads p.stays;
    looks = p.looks;
    ticks = p.ticks;
    stays = p.stays;
  }

-- with no more pages than rows the bound is kept
pub few_rows : {S V O : Type 0} (s : Ghosts S) (R : Stores V S) (o : Orders O) (side : List ℕ → Side) (max : ℕ) (t : Tree V O) (old : S) (steps steps' : ℕ) → steps' ≤ steps + t.height → FewPages s R o side max t old steps steps'
few_rows s R o side max t old steps steps' le = record { leaves = λ ps h. omega (arith, le); most = omega (arith, le) }

module _ {S V O : Type 0} (s : Ghosts S) (R : Stores V S) (o : Orders O) (total : IsTotalOrder o.cmp) (exact : CmpEqualImpliesEq o.cmp)
    (side : List ℕ → Side) (falls : NeverFalls o.cmp side) (max : ℕ) (t : Tree V O) (old : S) (steps : ℕ) where
  abbrev cmp : List ℕ → List ℕ → Ordering
  cmp = o.cmp

  abbrev Here : Map → Type 0
  Here m = Beside s R (t.cache.pages, t.store) old m

  -- the way to where the stretch begins is one to this leaf
  abbrev pub Leads : ℕ → Type 0
  Leads id = (path : List (ℕ × ℕ)) × LeadsTo s R cmp (start_of side) [] t old path id

  -- at a leaf further on, and what it took so far
  pub record At (m : Map) (ps : List Pair) (is : HoldsPairs (before_by cmp) t.head t.height t.column (get m) ps) (pairs : List Pair) (next steps' : ℕ) : Type 0 where
    pub further : Further side is.tree.leaves pairs next
    pub paid : steps' ≤ steps + t.height + leaves_inside side further.going.front

  -- some leaves were scanned
  pub record Scanning (u : Tree V O) (new : S) (steps' : ℕ) (pairs : List Pair) (next : ℕ) : Type 0 where
    pub passes : Passes s R t u steps steps' old new
    pub room : next ≢ 0 → length pairs < max
    pub at : (m : Map) (ps : List Pair) (is : HoldsPairs (before_by cmp) t.head t.height t.column (get m) ps) → Here m → next ≢ 0 → At m ps is pairs next steps'
    pub done : (m : Map) (ps : List Pair) (is : HoldsPairs (before_by cmp) t.head t.height t.column (get m) ps) → Here m → next ≡ 0 → pairs ≡ take max (inside side ps)
    pub taken : next ≢ 0 → steps' ≤ steps + t.height + length pairs
    pub few : FewPages s R o side max t old steps steps'

  module _ (ready : IsOpen s R o t old) where
    -- what is looked at is the store's
    pub passed_ready : (u : Tree V O) (new : S) (steps' : ℕ) → Passes s R t u steps steps' old new → ReadyBeside s R u.cache u.store new
    passed_ready u new steps' p = record {
      sound = p.looks.reads.sound;
      held = λ told. let h = ready.held told in (h.1.1.records, p.looks.reads.means h.1.1.records ((told, h.1.1.store), h.1.1.same));
    }

    -- the leaf to be scanned is there
    there : (u : Tree V O) (new : S) (steps' : ℕ) (pairs : List Pair) (next : ℕ) → Passes s R t u steps steps' old new
        → ((m : Map) (ps : List Pair) (is : HoldsPairs (before_by cmp) t.head t.height t.column (get m) ps) → Here m → Going side is.tree.leaves pairs next) → IsThere s R IsSomeLeaf next u.cache u.store new
    there u new steps' pairs next p going told =
        let h = ready.held told in
        let m : Map = h.1.1.records in
        let is : HoldsPairs (before_by cmp) t.head t.height t.column (get m) h.0 = h.1.1.is in
        let b : Beside s R (t.cache.pages, t.store) old m = ((told, h.1.1.store), h.1.1.same) in
        let g = going m h.0 is b in
        (m, leaf_page g.at.leaf, p.looks.reads.means m b, going_page cmp total exact side falls max t.head t.height t.column m h.0 is pairs next g, (g.at.leaf, refl))

    pub first_there : (u : Tree V O) (new : S) (steps' id : ℕ) → Passes s R t u steps steps' old new
        → Leads id
        → IsThere s R IsSomeLeaf id u.cache u.store new
    first_there u new steps' id p found = there u new steps' [] id p (λ m ps is b. going_first cmp total exact side falls t.head.root id is.tree.leaves is.tree.levels found.0 is.tree.stands.order (found.1 m is.tree b))

    pub next_there : (u : Tree V O) (new : S) (steps' : ℕ) (pairs : List Pair) (next : ℕ) → next ≢ 0 → Scanning u new steps' pairs next → IsThere s R IsSomeLeaf next u.cache u.store new
    next_there u new steps' pairs next on sc = there u new steps' pairs next sc.passes (λ m ps is b. (sc.at m ps is b on).further.going)

  -- one leaf is scanned
  module _ (u w : Tree V O) (new new' : S) (steps' steps'' : ℕ) (pairs pairs' : List Pair) (id onward : ℕ) (p : Passes s R t u steps steps' old new) (v : Visits s R 1 u w steps' steps'' new new')
      (scanned : ScansLeaf s R (before_by cmp) side max id u new pairs pairs' onward) where
    scan_of : (m : Map) (ps : List Pair) (is : HoldsPairs (before_by cmp) t.head t.height t.column (get m) ps) → Here m → (g : Going side is.tree.leaves pairs id) → IsScanned side max g.at.leaf pairs pairs' onward
    scan_of m ps is b g = scanned m g.at.leaf (p.looks.reads.means m b) (going_page cmp total exact side falls max t.head t.height t.column m ps is pairs id g) (going_ascends cmp total exact side falls max t.head t.height t.column m ps is pairs id g)

    both : Passes s R t w steps steps'' old new'
    both = passes_then s R t u w steps steps' steps'' old new new' p (passes_of s R 1 u w steps' steps'' new new' v)

    -- the first leaf
    pub scanning_first : pairs ≡ [] → steps' ≤ steps + (t.height - 1) → 1 ≤ t.height → (onward ≢ 0 → length pairs' < max)
        → Leads id → Scanning w new' steps'' pairs' onward
    scanning_first none way some room found = record {
      passes = both;
      room = room;
      at = λ m ps is b on. let g = going m ps is b in let o = going_on cmp total exact side falls max t.head t.height t.column m ps is pairs pairs' id onward g (scan_of m ps is b g) on in record { further = o.to; paid = omega (arith, way, some, v.pages.within) };
      done = λ m ps is b end. let g = going m ps is b in going_end cmp total exact side falls max t.head t.height t.column m ps is pairs pairs' id onward g (scan_of m ps is b g) (omega (arith, ap (λ (l : List Pair). length l) none)) end;
      taken = λ on. omega (arith, way, some, v.pages.within);
      few = few_rows s R o side max t old steps steps'' (omega (arith, way, some, v.pages.within));
    }
      where
        going : (m : Map) (ps : List Pair) (is : HoldsPairs (before_by cmp) t.head t.height t.column (get m) ps) → Here m → Going side is.tree.leaves pairs id
        going m ps is b =
            subst (λ (l : List Pair). Going side is.tree.leaves l id) (sym none) (going_first cmp total exact side falls t.head.root id is.tree.leaves is.tree.levels found.0 is.tree.stands.order (found.1 m is.tree b))

  module _ (u w : Tree V O) (new new' : S) (steps' steps'' : ℕ) (pairs pairs' : List Pair) (id : ℕ) (on : id ≢ 0) (sc : Scanning u new steps' pairs id) (v : Visits s R 1 u w steps' steps'' new new') where
    -- whatever it answers
    pub scanning_stops : Passes s R t w steps steps'' old new' × FewPages s R o side max t old steps steps''
    scanning_stops = (
      passes_then s R t u w steps steps' steps'' old new new' sc.passes (passes_of s R 1 u w steps' steps'' new new' v),
      record {
        leaves = λ ps h. let a = sc.at h.1.records ps h.1.is ((h.0, h.1.store), h.1.same) on in let g = a.further.going in omega (arith, a.paid, v.pages.within, inside_front side h.1.is.tree.leaves g.front (g.at ∷ g.back) g.parts);
        most = omega (arith, sc.taken on, sc.room on, v.pages.within);
      },
    )

    -- a further leaf
    pub scanning_more : (onward next : ℕ)
        → ScansLeaf s R (before_by cmp) side max id u new pairs pairs' onward
        → (onward ≢ 0 → length pairs' < max) → (next ≢ 0 → length pairs < length pairs') → (length pairs < length pairs' → next ≡ onward) → Scanning w new' steps'' pairs' next
    scanning_more onward next scanned room grown same = record {
      passes = scanning_stops.0;
      room = λ n. room (λ e. n (same (grown n) ∙ e));
      at = at;
      done = done;
      taken = λ n. omega (arith, sc.taken on, grown n, v.pages.within);
      few = scanning_stops.1;
    }
      where
        scan : (m : Map) (ps : List Pair) (is : HoldsPairs (before_by cmp) t.head t.height t.column (get m) ps) → Here m → (g : Going side is.tree.leaves pairs id) → IsScanned side max g.at.leaf pairs pairs' onward
        scan m ps is b g = scanned m g.at.leaf (sc.passes.looks.reads.means m b) (going_page cmp total exact side falls max t.head t.height t.column m ps is pairs id g) (going_ascends cmp total exact side falls max t.head t.height t.column m ps is pairs id g)

        at : (m : Map) (ps : List Pair) (is : HoldsPairs (before_by cmp) t.head t.height t.column (get m) ps) → Here m → next ≢ 0 → At m ps is pairs' next steps''
        at m ps is b n =
            let a = sc.at m ps is b on in
            let g = a.further.going in
            let isn : onward ≢ 0 = λ e. n (same (grown n) ∙ e) in
            let k = scan m ps is b g in
            let o = going_on cmp total exact side falls max t.head t.height t.column m ps is pairs pairs' id onward g k isn in
            let has : 0 < length (inside side (leaf_pairs g.at)) = scanned_has side max g.at.leaf pairs pairs' onward k (grown n) isn in
            let here : At m ps is pairs' onward steps'' = record { further = o.to; paid = omega (arith, a.paid, v.pages.within, ap (leaves_inside side) o.front_is, inside_one side g.front g.at has) } in
            subst (λ (i : ℕ). At m ps is pairs' i steps'') (sym (same (grown n))) here

        done : (m : Map) (ps : List Pair) (is : HoldsPairs (before_by cmp) t.head t.height t.column (get m) ps) → Here m → next ≡ 0 → pairs' ≡ take max (inside side ps)
        done m ps is b end =
            let a = sc.at m ps is b on in
            let g = a.further.going in
            let k = scan m ps is b g in
            ⊎_elim
            (λ (none : onward ≡ 0). going_end cmp total exact side falls max t.head t.height t.column m ps is pairs pairs' id onward g k (omega (arith, sc.room on)) none)
            (λ (some : onward ≡ 0 → ⊥). let more : length pairs < length pairs' = scanned_some side max g.at.leaf pairs pairs' onward k a.further.from a.further.some some in absurd (some (sym (same more) ∙ end)))
            (cases_eq onward 0)

  -- at the end
  pub scanning_value : (u : Tree V O) (new : S) (steps' : ℕ) (pairs : List Pair) (next : ℕ) → next ≡ 0 → Scanning u new steps' pairs next → AnswersPairs s R o (inside_first max side) t old pairs
  scanning_value u new steps' pairs next end sc ps means = sc.done means.1.records ps means.1.is ((means.0, means.1.store), means.1.same) end
