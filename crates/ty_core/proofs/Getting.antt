-- The value of a key, got for a text command.
use Rattle.std.proofs.Common.{◌≡◌, ◌≤◌, ℕ, Bool, true, false, cond, List, [], ◌++◌, length, drop, refl, sym, ap, subst, ◌∙◌, arith}
use Rattle.std.specs.Prelude.{Option, Some, None, option_map, ◌&&◌}
use Rattle.tc_base.specs.Files.{Files}
use Rattle.tc_base.specs.declared.request.Request.TheVariants.{Get}
use Rattle.tc_base.specs.declared.request.Reply.TheVariants as reply
use Rattle.ty_wire.specs.Spelling.{reply_bytes}
use Rattle.tc_space.specs.declared.space.Space.{Ghosts}
use Rattle.tc_space.specs.Frames.{OnlyReads, Reads}
use Rattle.tc_model.specs.declared.applied.Applied.{Applied}
use Rattle.tc_model.specs.Contents.{Contents, Walk}
use Rattle.tc_model.specs.Stores.{held}
use Rattle.tc_model.specs.Apply.{apply, fits, refused, tells, took}
use Rattle.tc_model.proofs.Idle.{apply_idle}
use Rattle.ty_pieces.specs.Pieces.{got, value_in}
use Rattle.ty_base.specs.Holding.{Held}
use Rattle.ty_base.specs.Holding as holding
use Rattle.ty_core.specs.Texts.{Fetches, value_if}

no_update : (b : Bool) → (b && false) ≡ false
no_update true = refl
no_update false = refl

get_stays : (key : List ℕ) (c : Contents) → (apply false (Get key) c None).contents ≡ c
get_stays key c = apply_idle false (Get key) c None (no_update (apply false (Get key) c None).ok)

got_by : (key : List ℕ) (c : Contents) (w : Walk) (ok : Bool) (bytes : List ℕ) (o : Option (List ℕ)) → bytes ≡ reply_bytes (took (Get key) (tells c (option_map (λ v. reply.Value v) o)) c None).reply → ok ≡ (took (Get key) (tells c (option_map (λ v. reply.Value v) o)) c None).ok
    → value_if ok bytes ≡ value_in (took (Get key) (tells c (option_map (λ v. reply.Value v) o)) c w).reply
got_by key c w ok bytes None b e = ap (λ (x : Bool). value_if x bytes) e
got_by key c w ok bytes (Some v) b e = go (fits (reply.Value v)) b e
  where
    go : (t : Bool) → bytes ≡ reply_bytes (cond t (record { contents = c; walk = None; reply = reply.Value v; ok = true }) (refused (Get key) c None)).reply → ok ≡ (cond t (record { contents = c; walk = None; reply = reply.Value v; ok = true }) (refused (Get key) c None)).ok
        → value_if ok bytes ≡ value_in (cond t (record { contents = c; walk = w; reply = reply.Value v; ok = true }) (refused (Get key) c w)).reply
    go true b e = ap (λ (x : Bool). value_if x bytes) e ∙ ap (λ (l : List ℕ). Some (drop 5 l)) b
    go false b e = ap (λ (x : Bool). value_if x bytes) e

got_told : (replica : Bool) (key : List ℕ) (c : Contents) (w : Walk) (ok : Bool) (bytes : List ℕ) → bytes ≡ reply_bytes (apply false (Get key) c None).reply → ok ≡ (apply false (Get key) c None).ok → value_if ok bytes ≡ got replica c w key
unfolding apply
got_told true key c w ok bytes b e = got_by key c w ok bytes (held c key) b e
got_told false key c w ok bytes b e = got_by key c w ok bytes (held c key) b e

long_by : (key : List ℕ) (c : Contents) (bytes : List ℕ) (o : Option (List ℕ)) → bytes ≡ reply_bytes (took (Get key) (tells c (option_map (λ v. reply.Value v) o)) c None).reply → (took (Get key) (tells c (option_map (λ v. reply.Value v) o)) c None).ok ≡ true → 5 ≤ length bytes
long_by key c bytes None b e = absurd cc
long_by key c bytes (Some v) b e = go (fits (reply.Value v)) b e
  where
    go : (t : Bool) → bytes ≡ reply_bytes (cond t (record { contents = c; walk = None; reply = reply.Value v; ok = true }) (refused (Get key) c None)).reply → (cond t (record { contents = c; walk = None; reply = reply.Value v; ok = true }) (refused (Get key) c None)).ok ≡ true → 5 ≤ length bytes
    go true b e = omega (arith, ap length b)
    go false b e = absurd cc

long_told : (key : List ℕ) (c : Contents) (bytes : List ℕ) → bytes ≡ reply_bytes (apply false (Get key) c None).reply → (apply false (Get key) c None).ok ≡ true → 5 ≤ length bytes
unfolding apply
long_told key c bytes b e = long_by key c bytes (held c key) b e

module _ {S B : Type 0} (s : Ghosts S) (holds : B → Files → Contents → Type 0) where
  -- a walk that is none
  pub with_none : (key : List ℕ) (a : Applied) (base base' : B) (old new : S) (w w' : Walk) (bytes bytes' : List ℕ) → w ≡ None → ((c : Contents) → Held s holds base old c → holding.Serves s holds (apply false (Get key) c w) (Get key) a base' new w' bytes bytes')
      → (c : Contents) → Held s holds base old c → holding.Serves s holds (apply false (Get key) c None) (Get key) a base' new w' bytes bytes'
  with_none key a base base' old new w w' bytes bytes' is serves c h = subst (λ (v : Walk). holding.Serves s holds (apply false (Get key) c v) (Get key) a base' new w' bytes bytes') is (serves c h)

  pub get_reads : (key : List ℕ) (a : Applied) (base base' : B) (old new : S) (w' : Walk) (bytes bytes' : List ℕ) → ((c : Contents) → Held s holds base old c → holding.Serves s holds (apply false (Get key) c None) (Get key) a base' new w' bytes bytes') → OnlyReads s old new → Reads s (Held s holds) base base' old new
  get_reads key a base base' old new w' bytes bytes' serves reads = record {
    now = reads.files;
    touched = reads.untouched;
    sound = reads.is_sound;
    means = λ c h. let x = serves c h in subst (λ (d : Contents). Held s holds base' new d) (x.applies.contents ∙ get_stays key c) x.holds;
  }

  pub get_fetches : (key : List ℕ) (a : Applied) (base base' : B) (old new : S) (w' : Walk) (bytes bytes' : List ℕ) → bytes ≡ [] → ((c : Contents) → Held s holds base old c → holding.Serves s holds (apply false (Get key) c None) (Get key) a base' new w' bytes bytes') → Fetches s holds base old key a.ok bytes'
  get_fetches key a base base' old new w' bytes bytes' none serves = record {
    long = λ c h is. let x = serves c h in long_told key c bytes' (x.applies.bytes ∙ ap (λ (l : List ℕ). l ++ reply_bytes (apply false (Get key) c None).reply) none) (sym x.applies.ok ∙ is);
    value = λ replica w c h. let x = serves c h in got_told replica key c w a.ok bytes' (x.applies.bytes ∙ ap (λ (l : List ℕ). l ++ reply_bytes (apply false (Get key) c None).reply) none) x.applies.ok;
  }
