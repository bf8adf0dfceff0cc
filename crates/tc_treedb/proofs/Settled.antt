-- The file stands for the contents once they are settled, and a packing keeps them.
use Rattle.std.proofs.Common.{◌≡◌, ◌⊎◌, inl, inr, ⊎_elim, sym, subst}
use Rattle.std.specs.Prelude.{IfSome}
use Rattle.tc_base.specs.declared.kind.Form.{Form}
use Rattle.tc_base.specs.declared.kind.Form.TheVariants.{Large}
use Rattle.tc_space.specs.Changes.{same}
use Rattle.tc_space.specs.Frames.{Writes}
use Rattle.tc_space.specs.Stores.{Only}
use Rattle.tc_space.specs.declared.space.Space.{Ghosts}
use Rattle.tc_model.specs.Contents.{Contents}
use Rattle.ty_base.specs.Holding.{FormsLayout, Held as HeldNow}
use Rattle.tc_treedb.specs.Filling.{LacksLarge}
use Rattle.tc_treedb.specs.Holding.{HoldsPairs, Means, Reopens}
use Rattle.tc_treedb.specs.Kept.{BringsKept, FormsKept, LacksFormed}
use Rattle.tc_treedb.specs.Laying.{formed_layout}
use Rattle.tc_treedb.specs.Layouts.{layout_of}
use Rattle.tc_treedb.specs.Lifting.{means_of}
use Rattle.tc_treedb.specs.Reading.{bytes_in}
use Rattle.tc_treedb.specs.declared.holding.TreeEngine.{TreeEngine}

module _ {S : Type 0} (s : Ghosts S) where
  pub remains_up : (e e' : TreeEngine S) (a b : S) → e'.total ≡ e.total → Writes s (Only 0) (Means s) same e.kept e'.kept a b → (c : Contents) → HeldNow s HoldsPairs e a c → HeldNow s HoldsPairs e' b c
  remains_up e e' a b total writes c h =
      let m = writes.means h.1.held (means_of s e a c h) in
      (m.0, record { held = h.1.held; is = h.1.is; holds_it = m.1; counted = subst (λ t. IfSome t (λ n. n ≡ bytes_in h.1.held.1)) (sym total) h.1.counted })

  pub settles_up : (e e' : TreeEngine S) (a b : S) → e'.total ≡ e.total → Writes s (Only 0) (Means s) same e.kept e'.kept a b → BringsKept s e.kept a b → (c : Contents) → HeldNow s HoldsPairs e a c → HeldNow s HoldsPairs e' b c × Reopens (s.now b) c
  settles_up e e' a b total writes brings c h = (remains_up e e' a b total writes c h, inr (record { held = h.1.held; is = h.1.is; stands = (brings h.1.held (means_of s e a c h)).stands }))

  pub forms_up : (form : Form) (e e' : TreeEngine S) (a b : S) → Writes s (Only 0) (Means s) same e.kept e'.kept a b → FormsKept form e.kept e'.kept → (c : Contents) → HeldNow s HoldsPairs e a c → FormsLayout form (layout_of (s.now a)) (layout_of (s.now b))
  forms_up form e e' a b writes formed c h =
      let was = means_of s e a c h in
      let now = writes.means h.1.held was in
      formed_layout form e.kept e'.kept (s.now a 0) (s.now b 0) h.1.held h.1.held was.1 now.1 formed

  pub lacks_up : (form : Form) (e : TreeEngine S) (a b : S) → LacksFormed s form e.kept a b → (c : Contents) → HeldNow s HoldsPairs e a c → s.log_full b ⊎ ((form ≡ Large) × LacksLarge s a b c)
  lacks_up form e a b lacks c h = ⊎_elim (λ log. inl log) (λ large. inr (large.0, subst (λ d. LacksLarge s a b d) (sym h.1.is) large.1)) (lacks h.1.held (means_of s e a c h))
