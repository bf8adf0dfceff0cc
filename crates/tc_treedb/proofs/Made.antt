-- A file that is opened, or made anew.
use Rattle.std.proofs.Common.{◌≡◌, ◌∙◌, inl, inr, ⊎_elim, ℕ, zero, suc, ◌+◌, ◌≤◌, ◌-◌, ◌==◌, false, List, [], ◌∷◌, length, take, refl, sym, ap, subst, arith}
use Rattle.std.proofs.lemmas.Result.{err_from_is_err_and}
use Rattle.std.specs.Result.{IsErrAnd}
use Rattle.std.specs.Prelude.{◌⊎◌, ◌<◌, min, IfErr, IfOk, OnOk, IfSome, Some, None, Result, Ok, Err, IsErrOf}
use Rattle.std.specs.FinMap.{get}
use Rattle.tc_base.specs.Files.{Files}
use Rattle.tc_base.specs.Maps.{Map}
use Rattle.tc_base.specs.declared.kind.Kind.{Kind}
use Rattle.tc_base.specs.declared.kind.Kind.TheVariants as kinds
use Rattle.tc_base.specs.declared.kind.Rule.{Rule}
use Rattle.tc_io.specs.Causes.{Rose}
use Rattle.tc_space.specs.Changes.{same}
use Rattle.tc_space.specs.Frames.{OnlyReads, Writes, others_then}
use Rattle.tc_space.specs.Stores.{IsReady, Only}
use Rattle.tc_space.specs.declared.errors.OpenErr.{OpenErr}
use Rattle.tc_space.specs.declared.errors.OpenErr.TheVariants as open_err
use Rattle.tc_space.specs.declared.errors.RecErr.{RecErr}
use Rattle.tc_space.specs.declared.errors.RecErr.TheVariants as rec
use Rattle.tc_space.specs.declared.space.Space.{Ghosts}
use Rattle.ty_base.specs.Holding.{KeepsLayout, Layout, StaysLaid, StaysUsable, layout_refl}
use Rattle.ty_base.specs.Opening.{Breaks, CanOpen, CreatesAs, DoStand, IsCreated, IsOpened, OpensFor, OpensTo, OpensUsable, RefusesToOpen, any_of, any_of_open}
use Rattle.ty_base.specs.declared.errors.AnyErr.{AnyErr}
use Rattle.ty_base.specs.declared.errors.AnyErr.TheVariants as any
use Rattle.ty_base.proofs.Refusals.{cause_is, no_bytes}
use Rattle.bt_rows.specs.Heads.{head_of}
use Rattle.bt_rows.specs.Rules.{B1}
use Rattle.bt_rows.specs.Standing.{tree_pairs}
use Rattle.bt_rows.specs.declared.head.TreeHead.{TreeHead}
use Rattle.bt_tree.specs.Numbers.{lone_head}
use Rattle.hf_head.specs.declared.head.Head.{Head}
use Rattle.hf_head.specs.Heads.{head_in, is_large}
use Rattle.hf_tree.specs.Standing.{StandsFor}
use Rattle.tc_hash.specs.declared.hash.Hash.{Hash}
use Rattle.tc_hash.specs.Creating.{HasNoRoom}
use Rattle.tc_hash.specs.Ending.{free_end}
use Rattle.tc_hash.specs.Keeping.{at_most, holds, lead_of, numbers_of}
use Rattle.tc_hash.proofs.Numbered.{anew_leads}
use Rattle.tc_hash.specs.Opening.{IsBroken}
use Rattle.tc_hash.specs.Standing.{StandsWith, lead_in, numbers_in}
use Rattle.tc_model.specs.Contents.{Contents, tree}
use Rattle.tc_treedb.specs.Holding.{BreaksAs, BreaksRule, BreaksTree, Held, HoldsPairs, Means, Reopens, StandsTree, code_of, is_decimal}
use Rattle.tc_treedb.specs.Kept.{BringsKept, IsBroughtOf, TrimsKept, lead_kept}
use Rattle.tc_hashdb.specs.Laying.{none_behind}
use Rattle.tc_treedb.specs.Laying.{held_layout, held_lead, some_layout}
use Rattle.tc_treedb.specs.Layouts.{layout_in, layout_of}
use Rattle.tc_treedb.specs.Opening.{BreaksTree as BreaksHeld, CanOpenHash, HoldsNewHash, IsNewKept, IsSettledNew, OpensKept, OpensPairs, told_decimal}
use Rattle.tc_treedb.specs.Reading.{bytes_in}
use Rattle.tc_treedb.specs.Shapes.{IsNewIn, Lacks, LacksLone, Shaped, anew, usual}
use Rattle.tc_treedb.specs.declared.holding.TreeEngine.{TreeEngine}
use Rattle.tc_treedb.specs.declared.kept.Kept.{Kept}
use Rattle.tc_treedb.specs.declared.shape.TreeShape.{TreeShape}
use Rattle.tc_treedb.specs.OneTree.{one_tree}

module _ {S : Type 0} (s : Ghosts S) where
  pub made_ready : (shape : TreeShape) (hash : Hash S) (a b : S) (kept : Kept S) → IsNewKept s shape hash a b kept → IsReady s (Means s) kept b
  made_ready shape hash a b kept new = record { sound = new.sound; held = λ told. ((shape.decimal, []), new.means told) }

  four : (a b c d w x y z : ℕ) → a ∷ b ∷ c ∷ d ∷ [] ≡ w ∷ x ∷ y ∷ z ∷ [] → (a ≡ w) × ((b ≡ x) × ((c ≡ y) × (d ≡ z)))
  four a b c d w x y z same = (cc, (cc, (cc, cc)))

  no_lead : (a b c d : ℕ) → a ≤ b → b ≡ c → c ≤ d → d ≤ 0 → a ≤ 0
  no_lead a b c d first same second none = omega (arith, first, same, second, none)

  zero_by : (a b : ℕ) → a ≡ b → a ≤ 0 → b ≡ 0
  zero_by a b same none = omega (arith, same, none)

  -- the head of the file that was made
  shaped_new : (shape : TreeShape) (hash : Hash S) (files : Files) → IsNewIn shape hash.body.head → (layout_of files).numbers ≡ numbers_of hash → (layout_of files).lead ≤ 0 → (layout_of files).slack ≡ 0
      → IsBroughtOf (lone_head (code_of shape.decimal) shape.leaf_limit shape.node_limit) (shape.decimal, []) (files 0) → Shaped shape files
  shaped_new shape hash files new numbers lead slack brought =
      let bytes : List ℕ = files 0 in
      let stands = brought.stands in
      let opens = stands.file.is.opens in
      let some : 1 ≤ length bytes = let long = opens.long in omega (arith, long) in
      let is = some_layout bytes some in
      let head : head_in (take 256 bytes) ≡ stands.file.is.head = opens.spells.fields in
      let fixed : numbers_in (head_in (take 256 bytes)) ≡ numbers_of hash = sym (ap (λ (l : Layout). l.numbers) is) ∙ numbers in
      let each = four (head_in (take 256 bytes)).options (head_in (take 256 bytes)).apow (head_in (take 256 bytes)).fpow (head_in (take 256 bytes)).buckets hash.body.head.options hash.body.head.apow hash.body.head.fpow hash.body.head.buckets fixed in
      let sum : (length bytes - (head_in (take 256 bytes)).size) + free_end (head_in (take 256 bytes)) bytes ≡ 0 = sym (ap (λ (l : Layout). l.slack) is) ∙ slack in
      let within : stands.file.is.head.size ≤ length bytes = opens.blocks.within in
      let size : (head_in (take 256 bytes)).size ≡ stands.file.is.head.size = ap (λ (h : Head). h.size) head in
      record {
        numbers = record {
          kind_is = ap (λ (h : Head). h.kind) head ∙ opens.kind_is;
          apow_is = each.1.0 ∙ new.apow_is;
          fpow_is = each.1.1.0 ∙ new.fpow_is;
          buckets_is = each.1.1.1 ∙ new.buckets_is;
          options_most = let most = new.options_most in let same = each.0 in omega (arith, most, same);
          form = ap (λ (n : ℕ). is_large (record hash.body.head { options = n })) each.0 ∙ new.form;
          code = ap (λ (n : TreeHead). n.order) brought.numbers;
          leaf = ap (λ (n : TreeHead). n.leaf_limit) brought.numbers;
          node = ap (λ (n : TreeHead). n.node_limit) brought.numbers;
          lead = zero_by (layout_of files).lead (lead_in (head_in (take 256 bytes))) (ap (λ (l : Layout). l.lead) is) lead;
          region = brought.region;
        };
        long = omega (arith, sum, within, size);
        none_free = omega (arith, sum);
      }

  pub settled_new : (shape : TreeShape) (hash : Hash S) (a b c : S) (v v' : Kept S) → HoldsNewHash s shape hash a → IsNewKept s shape hash a b v → Writes s (Only 0) (Means s) same v v' b c → BringsKept s v b c → TrimsKept s v b c → IsSettledNew s shape a c v'
  settled_new shape hash a b c v v' start new writes brings trims = record {
    sound = writes.sound;
    others = others_then s (Only 0) a b c new.others writes.others;
    means = λ told. writes.means (shape.decimal, []) (new.means told);
    stands = λ told. (brings (shape.decimal, []) (new.means told)).stands;
    shaped = λ told.
        let m = new.means told in
        let brought = brings (shape.decimal, []) m in
        let trim = trims (shape.decimal, []) m in
        let lead : (layout_of (s.now c)).lead ≤ 0 = no_lead (layout_of (s.now c)).lead (layout_of (s.now b)).lead (lead_kept v) (lead_of hash) trim.numbers.lead (held_lead v (s.now b 0) (shape.decimal, []) m.1) new.lead (anew_leads hash.body.head 0 start.new) in
        shaped_new shape hash (s.now c) start.new (trim.numbers.same ∙ (held_layout v (s.now b 0) (shape.decimal, []) m.1 ∙ new.numbers)) lead trim.none
        (subst (λ (n : TreeHead). IsBroughtOf n (shape.decimal, []) (s.now c 0)) new.head brought);
  }

pub made_opens : (kind : Kind) (files : Files) → kinds.Tree ≡ kind → length (files 0) ≡ 0 → OpensTo kind Reopens files (tree false false [])
made_opens kind files is none = record { kind_is = is; stand = inl (no_bytes (files 0) none, refl) }

-- an empty file stands for no data alone
only_none : (files : Files) (c : Contents) → length (files 0) ≡ 0 → Reopens files c → c ≡ tree false false []
only_none files c none stand = ⊎_elim (λ empty_file. empty_file.1) (λ main. absurd (let long : 256 ≤ length (files 0) = main.stands.file.is.opens.long in omega (arith, long, none))) stand

one_or_none : (n : ℕ) → n ≤ 1 → (n == 1) ≡ false → n ≡ 0
one_or_none zero most other = refl
one_or_none (suc zero) most other = absurd cc
one_or_none (suc (suc n)) most other = absurd (omega (arith, most))

usual_layout : (files : Files) → Shaped usual files → 1 ≤ length (files 0) → KeepsLayout (layout_in []) (layout_of files)
usual_layout files s some =
    let n = s.numbers in
    let is = some_layout (files 0) some in record {
      numbers = record {
        same = ap (λ (l : Layout). l.numbers) is ∙ (λ i. one_or_none (head_in (take 256 (files 0))).options n.options_most n.form i ∷ n.apow_is i ∷ n.fpow_is i ∷ n.buckets_is i ∷ []);
        lead = at_most 0 (layout_of files).lead (ap (λ (l : Layout). l.lead) is ∙ n.lead);
      };
      slack =
          let sum = ap (λ (l : Layout). l.slack) is in
          let behind = none_behind (length (files 0)) (head_in (take 256 (files 0))).size s.long in
          let free = s.none_free in
          omega (arith, sum, behind, free);
    }

module _ {S : Type 0} (s : Ghosts S) where
  -- what was made is as the trait says it
  pub created_as : (e : TreeEngine S) (shape : TreeShape) (a b : S) → e.total ≡ Some 0 → s.tells → IsSettledNew s shape a b e.kept → IsCreated HoldsPairs Reopens Shaped e (anew shape) shape (s.now b)
  created_as e shape a b total told made =
      let stands = made.stands told in record {
        holds = record { held = (shape.decimal, []); is = refl; holds_it = (made.means told).1; counted = subst (λ o. IfSome o (λ n. n ≡ bytes_in [])) (sym total) refl };
        stand = inr (record { held = (shape.decimal, []); is = refl; stands = stands });
        some = λ none. absurd (let long : 256 ≤ length (s.now b 0) = stands.file.is.opens.long in let short : length (s.now b 0) ≡ 0 = ap length none in omega (arith, long, short));
        numbers = made.shaped told;
      }

  pub lacks_sections : (a b : S) (shape : TreeShape) → s.limit b ≡ s.limit a → (h : Head) × IsNewIn shape h × HasNoRoom (s.limit a 0) (s.log_full b) h.first → Lacks s b shape
  lacks_sections a b shape limit full = record { head = full.0; new = full.1; passes = inl (subst (λ n. HasNoRoom n (s.log_full b) full.0.first) (sym (ap (λ f. f 0) limit)) full.2) }

  -- an opening that made it
  made_opened : (e : TreeEngine S) (kind : Kind) (a b : S) → length (s.now a 0) ≡ 0 → IsCreated HoldsPairs Reopens Shaped e (anew usual) usual (s.now b) → (c : Contents) → OpensTo kind Reopens (s.now a) c → IsOpened HoldsPairs Reopens e (s.now b) c
  made_opened e kind a b none created c opens = subst (λ d. IsOpened HoldsPairs Reopens e (s.now b) d) (sym (only_none (s.now a) c none opens.stand)) (record { holds = created.holds; stand = created.stand })

  -- an empty file stood for no data before it was made anew
  pub none_stood : (a : S) → (s.tells → s.now a 0 ≡ []) → DoStand s Reopens a
  none_stood a none = λ t. (tree false false [], inl (none t, refl))

  pub all_stand : {A E : Type 0} (r : Result A E) (kind : Kind) (a : S) → kinds.Tree ≡ kind → (s.tells → length (s.now a 0) ≡ 0) → OnOk r (CanOpen s Reopens kind a)
  all_stand (Ok x) kind a is none = λ t. (tree false false [], made_opens kind (s.now a) is (none t))
  all_stand (Err x) kind a is none = tt

  pub all_opened : {E : Type 0} (r : Result (TreeEngine S) E) (kind : Kind) (a b : S) → (s.tells → length (s.now a 0) ≡ 0) → IfOk r (λ e. CreatesAs s Reopens HoldsPairs Shaped e (anew usual) usual b) → IfOk r (λ e. OpensFor s Reopens HoldsPairs kind e a b)
  all_opened (Ok e) kind a b none created = λ t. made_opened e kind a b (none t) (created t)
  all_opened (Err x) kind a b none created = tt

  pub made_usual : {E : Type 0} (r : Result (TreeEngine S) E) (a b : S) → IfOk r (λ e. CreatesAs s Reopens HoldsPairs Shaped e (anew usual) usual b) → OnOk r (StaysUsable s (Only 0) a b) → OnOk r (OpensUsable s (Only 0) (Shaped usual) a b)
  made_usual (Ok e) a b created usable = record { sound = usable.sound; others = usable.others; made = λ t none. (created t).numbers }
  made_usual (Err x) a b created usable = tt

  pub made_laid : {E : Type 0} (r : Result (TreeEngine S) E) (a b : S) → (s.tells → length (s.now a 0) ≡ 0) → IfOk r (λ e. CreatesAs s Reopens HoldsPairs Shaped e (anew usual) usual b) → OnOk r (StaysLaid s layout_of a b)
  made_laid (Ok e) a b none created = λ t. subst (λ bytes. KeepsLayout (layout_in bytes) (layout_of (s.now b))) (sym (no_bytes (s.now a 0) (none t))) (usual_layout (s.now b) (created t).numbers (some_bytes (s.now b 0) (created t).some))
    where
      some_bytes : (bytes : List ℕ) → (bytes ≡ [] → ⊥) → 1 ≤ length bytes
      some_bytes [] some = absurd (some refl)
      some_bytes (x ∷ xs) some = omega arith
  made_laid (Err x) a b none created = tt

  pub read_laid : (a b : S) → (s.tells → (g : ℕ) → s.now b g ≡ s.now a g) → StaysLaid s layout_of a b
  read_laid a b same t = subst (λ bytes. KeepsLayout (layout_of (s.now a)) (layout_in bytes)) (sym (same t 0)) (layout_refl (layout_of (s.now a)))

  -- ---- of a file that is there

  pub can_open : (h : Hash S) (a b : S) → OnlyReads s a b → h.body.file ≡ 0 → h.body.head.kind ≡ 1 → (s.tells → (m : Map) × StandsWith 1 (s.now a 0) m h.region) → (s.tells → (m : Map) → StandsFor 1 (s.now a 0) (get m) → holds h (s.now b 0) m) → CanOpenHash s h b
  can_open h a b reads file kind stood held = record { sound = reads.is_sound; file = file; kind = kind; held = λ t. let m = stood t in (m.0, held t m.0 m.1.is) }

  -- the pairs that the file stands for, once its tree is open
  opened_pairs : (h : Hash S) (kept : Kept S) (a b : S) (m : Map) (stood : StandsWith 1 (s.now a 0) m h.region) (x : OpensPairs s h kept b m) → StandsTree (s.now a 0) (told_decimal s h, tree_pairs x.stands)
  opened_pairs h kept a b m stood x = record { records = m; region = h.region; file = stood; code = order_of (head_of h.region).order (one_most x.stands.stand.head); stands = x.stands; are = refl }
    where
      one_most : B1 (head_of h.region) → (head_of h.region).order ≤ 1
      one_most b = b.order

      order_of : (n : ℕ) → n ≤ 1 → n ≡ code_of (is_decimal n)
      order_of zero most = refl
      order_of (suc zero) most = refl
      order_of (suc (suc n)) most = absurd (omega (arith, most))

  pub main_stands : (kind : Kind) (h : Hash S) (kept : Kept S) (a mid b : S) → kinds.Tree ≡ kind → s.tells → ((g : ℕ) → s.now mid g ≡ s.now a g) → ((m : Map) × StandsWith 1 (s.now a 0) m h.region) → ((m : Map) → StandsFor 1 (s.now a 0) (get m) → holds h (s.now mid 0) m) → OpensKept s h mid b kept
      → (c : Contents) × OpensTo kind Reopens (s.now a) c
  main_stands kind h kept a mid b is t same stood held opens =
      let x = opens.opens stood.0 (t, held stood.0 stood.1.is) in
      let m : Held = (told_decimal s h, tree_pairs x.stands) in
      (tree false m.0 m.1, record { kind_is = is; stand = inr (record { held = m; is = refl; stands = opened_pairs h kept a b stood.0 stood.1 x }) })

  pub main_opened : (kind : Kind) (e : TreeEngine S) (h : Hash S) (a mid b : S) → (length (s.now a 0) ≡ 0 → ⊥) → s.tells → e.total ≡ None → ((g : ℕ) → s.now mid g ≡ s.now a g) → ((g : ℕ) → s.now b g ≡ s.now mid g) → ((m : Map) × StandsWith 1 (s.now a 0) m h.region)
      → ((m : Map) → StandsFor 1 (s.now a 0) (get m) → holds h (s.now mid 0) m) → OpensKept s h mid b e.kept → (c : Contents) → OpensTo kind Reopens (s.now a) c → IsOpened HoldsPairs Reopens e (s.now b) c
  main_opened kind e h a mid b some t total first second stood held opens c to = ⊎_elim
      (λ none. absurd (some (ap length none.0)))
      (λ main.
      let x = opens.opens stood.0 (t, held stood.0 stood.1.is) in
      let here : Held = (told_decimal s h, tree_pairs x.stands) in
      let one : main.held ≡ here = one_tree (s.now a 0) main.held here main.stands (opened_pairs h e.kept a b stood.0 stood.1 x) in
      let c_is : c ≡ tree false here.0 here.1 = main.is ∙ ap (λ (m : Held). tree false m.0 m.1) one in
      record {
        holds = record { held = here; is = c_is; holds_it = x.means.1; counted = subst (λ o. IfSome o (λ n. n ≡ bytes_in here.1)) (sym total) tt };
        stand = inr (record { held = here; is = c_is; stands = subst (λ bytes. StandsTree bytes here) (sym (second 0 ∙ first 0)) (opened_pairs h e.kept a b stood.0 stood.1 x) });
      })
      to.stand

-- ---- refusals

names_rule : (e : OpenErr) (P : ℕ → Rule → Type 0) → ((f : ℕ) (rule : Rule) → e ≡ open_err.Broken f rule → P f rule) → Breaks (any_of_open e) P
names_rule (open_err.Broken f rule) P breaks = breaks f rule refl
names_rule open_err.Fault P breaks = tt
names_rule open_err.Memory P breaks = tt

fault_only : (e : RecErr) → any_of e ≡ any.Fault → e ≡ rec.Fault
fault_only rec.Full is = absurd (let bad : any.Full ≡ any.Fault = is in cc)
fault_only rec.Fault is = refl
fault_only rec.Memory is = absurd (let bad : any.Memory ≡ any.Fault = is in cc)

rose_by : (a m b c n : ℕ) → a ≤ m → min (m + 1) n ≤ b → c ≡ b → min (a + 1) n ≤ c
rose_by a m b c n later rose same = omega (arith, later, rose, same)

-- a count that rose behind another, and stayed
pub rose_on : (a m b c : ℕ) → a ≤ m → Rose m b → c ≡ b → Rose a c
rose_on a m b c later rose same = rose_by a m b c _ later rose same

no_rule : (e : RecErr) (P : ℕ → Rule → Type 0) → Breaks (any_of e) P
no_rule rec.Full P = tt
no_rule rec.Fault P = tt
no_rule rec.Memory P = tt

pub names_no_rule : (a : AnyErr) (e : RecErr) (P : ℕ → Rule → Type 0) → a ≡ any_of e → Breaks a P
names_no_rule a e P is = subst (λ (x : AnyErr). Breaks x P) (sym is) (no_rule e P)

open_fault_only : (e : OpenErr) → any_of_open e ≡ any.Fault → e ≡ open_err.Fault
open_fault_only (open_err.Broken f rule) is = absurd (let bad : any.Broken f rule ≡ any.Fault = is in cc)
open_fault_only open_err.Fault is = refl
open_fault_only open_err.Memory is = absurd (let bad : any.Memory ≡ any.Fault = is in cc)

-- a fault at the exit of a `?` is one of the call
pub fault_from : {T U : Type 0} (r : Result T AnyErr) (e : OpenErr) → IsErrAnd r (λ a. a ≡ any_of_open e) → IsErrOf r any.Fault → IsErrOf {T = U} (Err e) open_err.Fault
fault_from r e is fault = let p = err_from_is_err_and r is in ap (λ x. Err x) (open_fault_only e (sym p.2 ∙ cause_is p.0 any.Fault (sym p.1 ∙ fault)))

-- a rule that is named at the exit of a `?`
pub broken_from : {T : Type 0} (r : Result T AnyErr) (e : OpenErr) (P : ℕ → Rule → Type 0) → IsErrAnd r (λ a. a ≡ any_of_open e) → ((f : ℕ) (rule : Rule) → e ≡ open_err.Broken f rule → P f rule) → IfErr r (λ a. Breaks a P)
broken_from {T} r e P is breaks =
    let p = err_from_is_err_and r is in
    subst (λ (q : Result T AnyErr). IfErr q (λ a. Breaks a P)) (sym p.1) (subst (λ (a : AnyErr). Breaks a P) (sym p.2) (names_rule e P breaks))

-- the first that files of trees break
pub breaks_file : (kind : Kind) (files : Files) (f : ℕ) (rule : Rule) → kinds.Tree ≡ kind → f ≡ 0 → (files 0 ≡ [] → ⊥) → IsBroken 1 (files 0) rule ⊎ BreaksTree (files 0) rule → BreaksAs kind files f rule
breaks_file kind files f rule is main some broken =
    let breaks : BreaksRule files f rule = record { in_main = main; some = some; broken = broken } in
    subst (λ (k : Kind). BreaksAs k files f rule) is breaks

module _ {S : Type 0} (s : Ghosts S) where
  -- the records of the file that was opened break one of trees
  pub breaks_main : (kind : Kind) (h : Hash S) (a mid : S) (e : OpenErr) → kinds.Tree ≡ kind → (s.tells → s.now a 0 ≡ [] → ⊥) → (s.tells → (g : ℕ) → s.now mid g ≡ s.now a g) → (s.tells → (m : Map) × StandsWith 1 (s.now a 0) m h.region) → (s.tells → (m : Map) → StandsFor 1 (s.now a 0) (get m) → holds h (s.now mid 0) m)
      → BreaksHeld s h mid e → (f : ℕ) (rule : Rule) → e ≡ open_err.Broken f rule → s.tells → BreaksAs kind (s.now a) f rule
  breaks_main kind h a mid e is some same stood held breaks f rule named t =
      let b = breaks f rule named in
      let m = stood t in
      breaks_file kind (s.now a) f rule is b.0 (some t) (inr (record { records = m.0; region = h.region; file = m.1; broken = b.1 m.0 (t, held t m.0 m.1.is) }))

  -- a refusal that gave the space up
  pub gave_up : (e : RecErr) (a b : S) {T : Type 0} → s.flag b ≡ false → (e ≡ rec.Fault → Rose (s.faults a) (s.faults b)) → (r : Result T AnyErr) → r ≡ Err (any_of e) → RefusesToOpen s r a b
  gave_up e a b {T} flag cause r is = subst (λ (q : Result T AnyErr). RefusesToOpen s q a b) (sym is)
      (record { left = inl flag; sound = no_rule e (λ f rule. OnlyReads s a b); cause = λ fault. cause (fault_only e (cause_is (any_of e) any.Fault fault)) })

  -- what lacked room lacks it still
  pub lacks_same : (shape : TreeShape) (a b : S) → s.tells → s.limit b ≡ s.limit a → ((g : ℕ) → s.now b g ≡ s.now a g) → (s.log_full a → s.log_full b) → (s.brought a → s.brought b) → Lacks s a shape → Lacks s b shape
  lacks_same shape a b t limit now log brought l =
      let same_limit : s.limit b 0 ≡ s.limit a 0 = ap (λ (f : ℕ → ℕ). f 0) limit in
      record {
        head = l.head;
        new = l.new;
        passes = ⊎_elim
            (λ none. inl (⊎_elim (λ more. inl (subst (λ (n : ℕ). n < l.head.first) (sym same_limit) more)) (λ rest. inr (⊎_elim (λ past. inl past) (λ full. inr (log full)) rest)) none))
            (λ x. inr (brought x.0, subst (λ (bytes : List ℕ). LacksLone (s.limit b 0) bytes l.head) (sym (now 0)) (subst (λ (n : ℕ). LacksLone n (s.now a 0) l.head) (sym same_limit) x.1)))
            l.passes;
      }
