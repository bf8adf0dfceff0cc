-- A file that is opened, or made anew.
use Rattle.std.proofs.Common.{◌≡◌, ◌∙◌, inl, inr, ⊎_elim, ℕ, ◌≤◌, List, [], length, refl, sym, ap, subst, arith}
use Rattle.std.specs.Prelude.{Result, Ok, Err, IfOk, OnOk}
use Rattle.std.specs.FinMap.{empty}
use Rattle.tc_base.specs.Endian.{le_bytes}
use Rattle.tc_base.specs.Files.{Files}
use Rattle.tc_base.specs.declared.kind.Kind.{Kind}
use Rattle.tc_base.specs.declared.kind.Kind.TheVariants as kinds
use Rattle.tc_space.specs.Stores.{Only}
use Rattle.tc_space.specs.declared.space.Space.{Ghosts}
use Rattle.tc_model.specs.Arrays.{Array}
use Rattle.tc_model.specs.Contents.{Contents, fixed}
use Rattle.ty_base.specs.Holding.{KeepsLayout, StaysLaid, StaysUsable, layout_refl}
use Rattle.ty_base.specs.Opening.{CreatesAs, DoStand, IsCreated, IsOpened, OpensFor, OpensTo, OpensUsable}
use Rattle.ty_base.proofs.Refusals.{no_bytes}
use Rattle.hf_head.specs.declared.fixed.FixedHead.{FixedHead}
use Rattle.hf_head.specs.FixedHeads.{fixed_spelled}
use Rattle.tc_fixed.specs.declared.fixed.Fixed.{Fixed}
use Rattle.tc_fixed.specs.Holding.{Means, max_id_of, width_of}
use Rattle.tc_fixed.specs.Shapes.{most_id}
use Rattle.tc_fixed.specs.Standing.{HasHead, Stands}
use Rattle.tc_fixeddb.specs.declared.holding.FixedEngine.{FixedEngine}
use Rattle.tc_fixeddb.specs.Holding.{HoldsIds, Reopens}
use Rattle.tc_fixeddb.specs.Layouts.{layout_in, layout_of, no_numbers}
use Rattle.tc_fixeddb.specs.Shapes.{Shaped, anew, usual}
use Rattle.tc_fixeddb.specs.declared.shape.FixedShape.{FixedShape}

-- the head of a file without ids is all of it
pub made_long : (h : FixedHead) (bytes : List ℕ) → bytes ≡ fixed_spelled h → length bytes ≡ 256
unfolding le_bytes fixed_spelled
made_long h bytes made = ap length made

long_file : (bytes : List ℕ) (width most : ℕ) (m : Array) → Stands bytes width most m → 256 ≤ length bytes
long_file bytes width most m stands = stands.by.head.long

-- the file of what is held has a head, where it stands for it
pub head_there : {S : Type 0} (e : FixedEngine S) (files : Files) (c : Contents) → HoldsIds e files c → Reopens files c → (h : FixedHead) × HasHead (files 0) h
head_there e files c h reopens = ⊎_elim
    (λ none. absurd (let long = h.holds_them.fills.long in let empty_file : length (files 0) ≡ 0 = ap length none.0 in omega (arith, long, empty_file)))
    (λ file. (file.stands.head, file.stands.by.head))
    reopens

pub made_opens : (kind : Kind) (files : Files) → kinds.Fixed ≡ kind → length (files 0) ≡ 0 → OpensTo kind Reopens files (anew usual)
made_opens kind files is none = record { kind_is = is; stand = inl (no_bytes (files 0) none, refl) }

-- an empty file stands for no data in that shape alone
only_none : (files : Files) (c : Contents) → length (files 0) ≡ 0 → Reopens files c → c ≡ anew usual
only_none files c none stand = ⊎_elim (λ empty_file. empty_file.1) (λ file. absurd (let long : 256 ≤ length (files 0) = long_file (files 0) file.width file.most file.ids file.stands in omega (arith, long, none))) stand

module _ {S : Type 0} (s : Ghosts S) where
  -- what was made is as the trait says it
  pub created_as : (e : FixedEngine S) (shape : FixedShape) (b : S) → width_of e.fixed ≡ shape.width → e.fixed.limit ≡ shape.limit → Means s e.fixed b empty → Stands (s.now b 0) shape.width (most_id shape.width shape.limit) empty → Shaped shape (s.now b) → IsCreated HoldsIds Reopens Shaped e (anew shape) shape (s.now b)
  created_as e shape b width limit means stands numbers = record {
    holds = record { ids = empty; is = λ i. fixed (sym width i) (most_id (sym width i) (sym limit i)) empty; holds_them = means.1 };
    stand = inr (record { width = shape.width; most = most_id shape.width shape.limit; ids = empty; is = refl; stands = stands });
    some = λ none. absurd (let long : 256 ≤ length (s.now b 0) = long_file (s.now b 0) shape.width (most_id shape.width shape.limit) empty stands in let short : length (s.now b 0) ≡ 0 = ap length none in omega (arith, long, short));
    numbers = numbers;
  }

  -- an opening that made it
  pub made_opened : (e : FixedEngine S) (kind : Kind) (a b : S) → length (s.now a 0) ≡ 0 → IsCreated HoldsIds Reopens Shaped e (anew usual) usual (s.now b) → (c : Contents) → OpensTo kind Reopens (s.now a) c → IsOpened HoldsIds Reopens e (s.now b) c
  made_opened e kind a b none created c opens = subst (λ d. IsOpened HoldsIds Reopens e (s.now b) d) (sym (only_none (s.now a) c none opens.stand)) (record { holds = created.holds; stand = created.stand })

  -- of which nothing is known where no files are told
  pub opens_made : (e : FixedEngine S) (kind : Kind) (a b : S) → (s.tells → length (s.now a 0) ≡ 0) → CreatesAs s Reopens HoldsIds Shaped e (anew usual) usual b → OpensFor s Reopens HoldsIds kind e a b
  opens_made e kind a b none created t = made_opened e kind a b (none t) (created t)

  -- it was made of the usual numbers
  -- an empty file stood for no data before it was made anew
  pub none_stood : (a : S) → (s.tells → s.now a 0 ≡ []) → DoStand s Reopens a
  none_stood a none = λ t. (anew usual, inl (none t, refl))

  pub made_usual : {E : Type 0} (r : Result (FixedEngine S) E) (a b : S) → IfOk r (λ e. CreatesAs s Reopens HoldsIds Shaped e (anew usual) usual b) → OnOk r (StaysUsable s (Only 0) a b) → OnOk r (OpensUsable s (Only 0) (Shaped usual) a b)
  made_usual (Ok e) a b created usable = record { sound = usable.sound; others = usable.others; made = λ t none. (created t).numbers }
  made_usual (Err x) a b created usable = tt

  -- what an opening made ends where its head says, and what it only read is as it was
  pub made_laid : {E : Type 0} (r : Result (FixedEngine S) E) (a b : S) → IfOk r (λ e. CreatesAs s Reopens HoldsIds Shaped e (anew usual) usual b) → OnOk r (StaysLaid s layout_of a b)
  made_laid (Ok e) a b created = λ t. let made = (created t).numbers in record { numbers = no_numbers (s.now a) (s.now b); slack = omega (arith, made.long, ap (λ (h : FixedHead). h.size) made.numbers) }
  made_laid (Err x) a b created = tt

  pub read_laid : (a b : S) → (s.tells → (g : ℕ) → s.now b g ≡ s.now a g) → StaysLaid s layout_of a b
  read_laid a b same t = subst (λ bytes. KeepsLayout (layout_of (s.now a)) (layout_in bytes)) (sym (same t 0)) (layout_refl (layout_of (s.now a)))

  pub main_opens : (f : Fixed S) (kind : Kind) (a : S) → kinds.Fixed ≡ kind → (m : Array) × Stands (s.now a 0) (width_of f) (max_id_of f) m → (c : Contents) × OpensTo kind Reopens (s.now a) c
  main_opens f kind a is stood = (fixed (width_of f) (max_id_of f) stood.0, record { kind_is = is; stand = inr (record { width = width_of f; most = max_id_of f; ids = stood.0; is = refl; stands = stood.1 }) })

  pub main_opened : (e : FixedEngine S) (kind : Kind) (a b : S) → (length (s.now a 0) ≡ 0 → ⊥) → s.now b 0 ≡ s.now a 0 → ((width most : ℕ) (m : Array) → Stands (s.now a 0) width most m → Means s e.fixed b m × (width_of e.fixed ≡ width) × (max_id_of e.fixed ≡ most)) → (c : Contents) → OpensTo kind Reopens (s.now a) c → IsOpened HoldsIds Reopens e (s.now b) c
  main_opened e kind a b some same opened c opens = ⊎_elim
      (λ none. absurd (some (ap length none.0)))
      (λ file.
      let held = opened file.width file.most file.ids file.stands in
      record {
        holds = record { ids = file.ids; is = file.is ∙ (λ i. fixed (sym held.1 i) (sym held.2 i) file.ids); holds_them = held.0.1 };
        stand = inr (record { width = file.width; most = file.most; ids = file.ids; is = file.is; stands = subst (λ bytes. Stands bytes file.width file.most file.ids) (sym same) file.stands });
      })
      opens.stand
