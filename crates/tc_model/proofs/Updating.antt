-- What a replica refuses.
use Rattle.std.proofs.Common.{◌≡◌, Bool, true, false, cond, refl}
use Rattle.std.specs.Prelude.{◌&&◌}
use Rattle.tc_base.specs.declared.request.Request.{Request}
use Rattle.tc_model.specs.Contents.{Contents, Walk}
use Rattle.tc_model.specs.Apply.{apply, applied, refused, updates}

-- what isn't refused by a replica is applied as elsewhere
pub apply_same : (replica : Bool) (r : Request) (c : Contents) (w : Walk) → (replica && updates r) ≡ false → apply replica r c w ≡ apply false r c w
unfolding apply
apply_same replica r c w e = go (replica && updates r) e
  where
    go : (b : Bool) → b ≡ false → cond b (refused r c w) (applied r c w) ≡ applied r c w
    go false e = refl
    go true e = absurd cc

pub apply_refused : (replica : Bool) (r : Request) (c : Contents) (w : Walk) → (replica && updates r) ≡ true → apply replica r c w ≡ refused r c w
unfolding apply
apply_refused replica r c w e = go (replica && updates r) e
  where
    go : (b : Bool) → b ≡ true → cond b (refused r c w) (applied r c w) ≡ refused r c w
    go true e = refl
    go false e = absurd cc
