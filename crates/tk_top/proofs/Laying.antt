-- Files that are opened are laid out like they were.
use Rattle.std.specs.Prelude.{ℕ, Option, Some, None}
use Rattle.tc_base.specs.Files.{Files}
use Rattle.tc_base.specs.declared.kind.Form.{Form}
use Rattle.tc_base.specs.declared.kind.Kind.{Kind}
use Rattle.tc_space.specs.Frames.{Others}
use Rattle.tc_space.specs.declared.space.Space.{Ghosts}
use Rattle.tc_model.specs.Contents.{Contents}
use Rattle.ty_base.specs.Holding.{Frame, KeepsFrame, Laid, Layout, beside_laid, frame_of, frame_refl, frame_then, layout_refl, no_layout, others_beside}
use Rattle.ty_base.specs.Opening.{IsOpened, OpensTo}
use Rattle.ty_world.specs.World.{Mark}
use Rattle.ty_rounds.proofs.Laying.{mark_less, moves_less}
use Rattle.tk_mgr.specs.Managing.{said_by}
use Rattle.tk_top.specs.Over.{HoldsLike, MovesLike}
use Rattle.tk_top.specs.Serving.{Begins}

module _ {B : Type 0} (holds : B → Files → Contents → Type 0) (reopens : Files → Contents → Type 0) (own : ℕ → Type 0) (layout : Files → Layout) (kind : Kind) where
  pub opened_laid : (l : Frame) (b : B) (old new : Files) (c : Contents) → ((d : Contents) → OpensTo kind reopens old d → IsOpened holds reopens b new d) → KeepsFrame own (frame_of layout old) (frame_of layout new) → OpensTo kind (Laid own layout l reopens) old c
      → IsOpened holds (Laid own layout l reopens) b new c
  opened_laid l b old new c opened keeps o =
      let x = opened c (record { kind_is = o.kind_is; stand = o.stand.stand }) in
      record { holds = x.holds; stand = record { stand = x.stand; like = frame_then own l (frame_of layout old) (frame_of layout new) o.stand.like keeps } }

  module _ {S : Type 0} (s : Ghosts S) (old new : S) where
    -- the files are laid out like themselves
    begins_as : (l : Frame) (m : Mark) → Begins s (OpensTo kind (Laid own no_layout l reopens)) old m → Begins s (OpensTo kind (Laid own layout (frame_of layout (s.now old)) reopens)) old m
    begins_as l m h = (h.0, record { contents = record { kind_is = h.1.contents.kind_is; stand = record { stand = h.1.contents.stand.stand; like = frame_refl own (frame_of layout (s.now old)) } }; log = h.1.log })

    pub holds_said : (p : Option Form) (b : B) → HoldsLike s holds reopens own layout kind b old new → HoldsLike s holds reopens own (said_by p layout) kind b old new
    holds_said None b like = like
    holds_said (Some f) b like = λ l m h.
        let now = frame_of layout (s.now old) in
        mark_less s holds (Laid own layout now reopens) (Laid own no_layout l reopens) (λ files c laid. beside_laid own layout reopens l now files c h.1.contents.stand.like laid) b new m (like now m (begins_as l m h))

    pub moves_said : (p : Option Form) → MovesLike s reopens own layout kind old new → MovesLike s reopens own (said_by p layout) kind old new
    moves_said None like = like
    moves_said (Some f) like = λ l m h.
        let now = frame_of layout (s.now old) in
        moves_less s holds (Laid own layout now reopens) (Laid own no_layout l reopens) (λ files c laid. beside_laid own layout reopens l now files c h.1.contents.stand.like laid) old new m (like now m (begins_as l m h))

-- contents for which files stand now, beside those that stood there
pub stays_beside : {S : Type 0} (s : Ghosts S) (own : ℕ → Type 0) (reopens : Files → Contents → Type 0) (l : Frame) (a b : S) (c d : Contents) → s.tells → Others s own a b → Laid own no_layout l reopens (s.now a) c → reopens (s.now b) d → Laid own no_layout l reopens (s.now b) d
stays_beside s own reopens l a b c d t others was stand = record {
  stand = stand;
  like = frame_then own l (frame_of no_layout (s.now a)) (frame_of no_layout (s.now b)) was.like (record { layout = layout_refl (no_layout (s.now b)); beside = others_beside s own a b t others });
}
