-- A piece that updates nothing leaves the contents; and a reply isn't long.
use Rattle.std.proofs.Common.{◌≡◌, ◌≤◌, ℕ, ◌∙◌, Bool, true, false, cond, List, [], length, refl, ap, arith}
use Rattle.std.specs.Prelude.{◌&&◌, nat_le}
use Rattle.std.proofs.lemmas.Bool.{leb-true, or_parts}
use Rattle.ty_wire.specs.Spelling.{spelling}
use Rattle.ty_memc.specs.declared.text.Then.{Then}
use Rattle.ty_memc.specs.declared.text.Then.TheVariants.{Say, Do}
use Rattle.ty_memc.specs.declared.text.Piece.{Piece}
use Rattle.ty_memc.specs.declared.text.Piece.TheVariants as piece
use Rattle.ty_memc.specs.Answers.{is_quiet, server_error, then_by}
use Rattle.tc_model.specs.Contents.{Contents, Walk}
use Rattle.tc_base.specs.declared.request.Request.{Request}
use Rattle.tc_model.specs.Apply.{Step, apply, is_updated, updates}
use Rattle.tc_model.specs.Packing.{is_optimize}
use Rattle.tc_model.proofs.Idle.{apply_idle}
use Rattle.tc_model.proofs.Updating.{apply_refused}
use Rattle.ty_pieces.specs.Made.{only}
use Rattle.ty_pieces.specs.Pieces.{got, bounded, then_done, text_done, done}
use Rattle.ty_pieces.proofs.Replies.{apply_small}

none_of : (b : Bool) (x : List ℕ) → only b x ≡ [] → b ≡ false
none_of true x e = absurd cc
none_of false x e = refl

only_none : (b : Bool) (x : List ℕ) → b ≡ false → only b x ≡ []
only_none b x e = ap (λ t. only t x) e

then_idle : (replica quiet : Bool) (x : Then) (c : Contents) (w : Walk) → (then_done replica quiet x c w).made.updates ≡ [] → (then_done replica quiet x c w).made.contents ≡ c
then_idle replica quiet (Say bytes) c w e = refl
then_idle replica quiet (Do r bytes) c w e = apply_idle replica r c w (none_of (is_updated r (apply replica r c w)) (spelling r) e)

pub done_idle : (replica : Bool) (x : Piece) (c : Contents) (w : Walk) → (done replica x c w).made.updates ≡ [] → (done replica x c w).made.contents ≡ c
unfolding text_done
done_idle replica (piece.Request r) c w e = apply_idle replica r c w (none_of (is_updated r (apply replica r c w)) (spelling r) e)
done_idle replica (piece.Text t) c w e = then_idle replica (is_quiet t) (then_by (got replica c w) t) c w e

then_quiet : (replica quiet : Bool) (x : Then) (c : Contents) (w : Walk) → (then_done replica quiet x c w).made.commits ≡ false → (then_done replica quiet x c w).made.updates ≡ []
then_quiet replica quiet (Say bytes) c w e = refl
then_quiet replica quiet (Do r bytes) c w e = only_none (is_updated r (apply replica r c w)) (spelling r) e

pub done_quiet : (replica : Bool) (x : Piece) (c : Contents) (w : Walk) → (done replica x c w).made.commits ≡ false → (done replica x c w).made.updates ≡ []
unfolding text_done
done_quiet replica (piece.Request r) c w e = only_none (is_updated r (apply replica r c w)) (spelling r) ((or_parts (is_updated r (apply replica r c w)) (is_optimize r) e).0)
done_quiet replica (piece.Text t) c w e = then_quiet replica (is_quiet t) (then_by (got replica c w) t) c w e

-- ---- on a replica

updated_none : (replica : Bool) (r : Request) (c : Contents) (w : Walk) → replica ≡ true → is_updated r (apply replica r c w) ≡ false
updated_none replica r c w is = go (updates r) refl
  where
    none : (b : Bool) → (b && false) ≡ false
    none true = refl
    none false = refl

    go : (u : Bool) → updates r ≡ u → is_updated r (apply replica r c w) ≡ false
    go true up = ap (λ (s : Step). is_updated r s) (apply_refused replica r c w (ap (λ (x : Bool). x && updates r) is ∙ up))
    go false up = ap (λ (x : Bool). (apply replica r c w).ok && x) up ∙ none (apply replica r c w).ok

then_unmade : (replica quiet : Bool) (x : Then) (c : Contents) (w : Walk) → replica ≡ true → (then_done replica quiet x c w).made.updates ≡ []
then_unmade replica quiet (Say bytes) c w is = refl
then_unmade replica quiet (Do r bytes) c w is = only_none (is_updated r (apply replica r c w)) (spelling r) (updated_none replica r c w is)

pub done_unmade : (replica : Bool) (x : Piece) (c : Contents) (w : Walk) → replica ≡ true → (done replica x c w).made.updates ≡ []
unfolding text_done
done_unmade replica (piece.Request r) c w is = only_none (is_updated r (apply replica r c w)) (spelling r) (updated_none replica r c w is)
done_unmade replica (piece.Text t) c w is = then_unmade replica (is_quiet t) (then_by (got replica c w) t) c w is

-- ---- replies

bounded_small : (bytes : List ℕ) → length (bounded bytes) ≤ 67108864
bounded_small bytes = go (nat_le (length bytes) 67108864) refl
  where
    go : (b : Bool) → nat_le (length bytes) 67108864 ≡ b → length (cond b bytes (server_error false)) ≤ 67108864
    go true is = leb-true (length bytes) 67108864 is
    go false is = omega arith

error_small : (quiet : Bool) → length (server_error quiet) ≤ 67108864
error_small true = omega arith
error_small false = omega arith

step_small : (quiet : Bool) (bytes : List ℕ) (ok : Bool) → length (cond ok (bounded bytes) (server_error quiet)) ≤ 67108864
step_small quiet bytes true = bounded_small bytes
step_small quiet bytes false = error_small quiet

then_small : (replica quiet : Bool) (x : Then) (c : Contents) (w : Walk) → length (then_done replica quiet x c w).reply ≤ 67108864
then_small replica quiet (Say bytes) c w = bounded_small bytes
then_small replica quiet (Do r bytes) c w = step_small quiet bytes (apply replica r c w).ok

pub piece_small : (replica : Bool) (x : Piece) (c : Contents) (w : Walk) → length (done replica x c w).reply ≤ 67108864
unfolding text_done
piece_small replica (piece.Request r) c w = apply_small replica r c w
piece_small replica (piece.Text t) c w = then_small replica (is_quiet t) (then_by (got replica c w) t) c w
