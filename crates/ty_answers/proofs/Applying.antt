-- From the step that a request makes to what a database promises of it.
use Rattle.std.proofs.Common.{◌≡◌, ◌∙◌, ℕ, Bool, false, List, refl, sym, ap, subst}
use Rattle.std.specs.Prelude.{◌&&◌}
use Rattle.tc_base.specs.Files.{Files}
use Rattle.tc_base.specs.declared.request.Request.{Request}
use Rattle.tc_space.specs.declared.space.Space.{Ghosts}
use Rattle.tc_model.specs.Contents.{Contents, Walk}
use Rattle.tc_model.specs.Apply.{apply, applied, updates}
use Rattle.tc_model.specs.Applying.{Applies}
use Rattle.tc_model.specs.Packing.{is_optimize}
use Rattle.tc_model.specs.declared.applied.Applied.{Applied}
use Rattle.ty_base.specs.Holding.{FillsBy, Held, Layout, Leaves, Serves}
use Rattle.ty_answers.specs.Engines.{engine_of}
use Rattle.ty_answers.specs.Steps.{IsFullStep, Steps}
use Rattle.ty_answers.specs.declared.database.Database.{Database}

applied_here : (r : Request) (c : Contents) (w : Walk) → apply false r c w ≡ applied r c w
unfolding apply
applied_here r c w = refl

module _ {S E : Type 0} (s : Ghosts S) (own : ℕ → Type 0) (layout : Files → Layout) (holds : E → Files → Contents → Type 0) where
  pub serves : (r : Request) (done updating : Bool) (a : Applied) (e : E) (d : Database E) (x y : S) (w w' : Walk) (old new : List ℕ) → updating ≡ updates r → a.ok ≡ done → a.updated ≡ (done && updating) → Steps s own layout holds r done e (engine_of d) x y w w' old new → (c : Contents) → Held s holds e x c → Serves s (λ b. holds (engine_of b)) (apply false r c w) r a d y w' old new
  serves r done updating a e d x y w w' old new up ok updated n c h =
      let z = n.applied_is c h in
      record {
        contents = z.0;
        holds = z.1;
        applies = subst (λ step. Applies step r a z.0 w' old new) (sym (applied_here r c w)) (record {
          contents = z.2.contents;
          walk = z.2.walk;
          bytes = z.2.bytes;
          ok = ok ∙ z.2.ok;
          updated = updated ∙ (ap (λ u. done && u) up ∙ ap (λ t. t && updates r) z.2.ok);
        });
      }

  pub leaves : (r : Request) (done updating : Bool) (idle : Type 0) (e e' : E) (x y : S) (w w' : Walk) (old new : List ℕ) → updating ≡ updates r → (idle → ((done && updating) ≡ false) × (is_optimize r ≡ false)) → (s.tells → (c : Contents) × Held s holds e x c) → Steps s own layout holds r done e e' x y w w' old new → Leaves s own layout idle x y
  leaves r done updating idle e e' x y w w' old new up quiet held n = record {
    sound = n.sound;
    others = n.others;
    numbered = λ t. let h = held t in n.numbered h.0 h.1;
    reads = λ i. n.idle (sym (ap (λ u. done && u) up) ∙ (quiet i).0) (quiet i).1;
  }

module _ {S E : Type 0} (s : Ghosts S) (holds : E → Files → Contents → Type 0) where
  pub full_applies : (fills : E → S → S → Contents → Contents → Type 0) (r : Request) (w : Walk) (e : E) (x y : S) → IsFullStep s holds fills r w e x y → FillsBy s holds (fills e x y) r e x (λ c. (apply false r c w).contents)
  full_applies fills r w e x y full = record { writes = full.writes; packs = full.packs; by = λ c h. subst (λ step. fills e x y c step.contents) (sym (applied_here r c w)) (full.by c h) }
