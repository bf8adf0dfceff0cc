-- A longer front of bytes that were looked at.
use Rattle.std.proofs.Common.{ℕ, ◌+◌, List, take, drop, sym, subst}
use Rattle.std.proofs.Math.Seq.{take-add}
use Rattle.ty_look.specs.declared.looking.Seen.{Seen}
use Rattle.ty_look.specs.Seen.{IsSeen}
use Rattle.ty_look.proofs.Ongoing.{seen_more}
use Rattle.ty_memc.specs.declared.looking.SeenText.{SeenText}
use Rattle.ty_memc.specs.declared.pieces.SeenPiece.{SeenPiece}
use Rattle.ty_memc.specs.Taking.{IsTextSeen}
use Rattle.ty_memc.specs.Fronts.{IsPieceSeen}
use Rattle.ty_memc.proofs.SeenTexts.{text_seen_more}
use Rattle.ty_memc.proofs.PieceFronts.{piece_seen_more}

pub seen_longer : (seen : Seen) (bytes : List ℕ) (n m : ℕ) → IsSeen seen (take n bytes) → IsSeen seen (take (n + m) bytes)
seen_longer seen bytes n m s = subst (IsSeen seen) (sym (take-add n m bytes)) (seen_more seen (take n bytes) (take m (drop n bytes)) s)

pub text_seen_longer : (seen : SeenText) (bytes : List ℕ) (n m : ℕ) → IsTextSeen seen (take n bytes) → IsTextSeen seen (take (n + m) bytes)
text_seen_longer seen bytes n m s = subst (IsTextSeen seen) (sym (take-add n m bytes)) (text_seen_more seen (take n bytes) (take m (drop n bytes)) s)

pub piece_seen_longer : (seen : SeenPiece) (bytes : List ℕ) (n m : ℕ) → IsPieceSeen seen (take n bytes) → IsPieceSeen seen (take (n + m) bytes)
piece_seen_longer seen bytes n m s = subst (IsPieceSeen seen) (sym (take-add n m bytes)) (piece_seen_more seen (take n bytes) (take m (drop n bytes)) s)
