-- A change of what is held in memory, as the trait of engines says it.
use Rattle.std.specs.Prelude.{◌≡◌, Bool, []}
use Rattle.std.proofs.Common.{◌∙◌, refl, sym, ap, inr}
use Rattle.tc_base.specs.Files.{Files}
use Rattle.tc_space.specs.Frames.{Reads, Refuses, others_refl}
use Rattle.tc_space.specs.declared.space.Space.{Ghosts}
use Rattle.tc_model.specs.Contents.{Contents}
use Rattle.ty_base.specs.Holding.{Held, no_layout, numbers_refl}
use Rattle.tc_engine.specs.Changes.{Change}
use Rattle.tc_engine.specs.Effects.{Makes}
use Rattle.tc_memdb.specs.declared.engine.MemEngine.{MemEngine}
use Rattle.tc_memdb.specs.Holding.{contents_of}
use Rattle.tc_memdb.specs.Made.{Made}

-- these contents, whatever the files are
abbrev pub Holds : MemEngine → Files → Contents → Type 0
Holds e files c = contents_of e.held ≡ c

module _ {S : Type 0} (s : Ghosts S) where
  pub reads_same : (e e' : MemEngine) (a : S) → s.sound a → contents_of e'.held ≡ contents_of e.held → Reads s (Held s Holds) e e' a a
  reads_same e e' a sound same = record { now = λ t g. refl; touched = refl; sound = sound; means = λ c h. (h.0, same ∙ h.1) }

  pub refuses_same : (e e' : MemEngine) (a : S) → s.sound a → contents_of e'.held ≡ contents_of e.held → Refuses s (Held s Holds) e e' a a
  refuses_same e e' a sound same = inr (reads_same e e' a sound same)

  pub makes : (f : Change) (done : Bool) (e e' : MemEngine) (a : S) → s.sound a → Made (f (contents_of e.held)) done (contents_of e.held) (contents_of e'.held) → Makes s (λ file. ⊥) no_layout Holds f done e e' a a
  makes f done e e' a sound m = record {
    sound = sound;
    others = others_refl s (λ file. ⊥) a;
    numbered = λ c h. numbers_refl (no_layout (s.now a));
    made = λ yes c h. (contents_of e'.held, ap f (sym h.1) ∙ m.made yes, (h.0, refl));
    fails = λ no c h. ap f (sym h.1) ∙ m.fails no;
    same = λ no. reads_same e e' a sound (m.same no);
  }
