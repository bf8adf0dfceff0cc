-- A part of what stands at the front is short.
use Rattle.std.proofs.Common.{◌≡◌, ◌<◌, ℕ, Bool, true, false, List, length, sym, ap, subst, arith, length-append}
use Rattle.ty_wire.specs.declared.reading.Front.TheVariants as front
use Rattle.ty_memc.specs.Fronts.{TakesAs, TakesPiece}
use Rattle.ty_memc.specs.Grammar.{begins_text}
use Rattle.ty_memc.proofs.RequestSizes.{part_small}
use Rattle.ty_ulog.specs.Records.{TakesRecord}
use Rattle.ty_ulog.specs.declared.reading.RecTake.TheVariants as take
use Rattle.ty_ulog.proofs.Taken.{long}
use Rattle.ty_rounds.specs.Sights.{ShortPart}
use Rattle.ty_rounds.specs.declared.peer.Peer.{Peer}
use Rattle.ty_rounds.specs.declared.peer.Role.{Role}
use Rattle.ty_rounds.specs.declared.peer.Role.TheVariants as peer

piece_part : (text : Bool) (u : List ℕ) → TakesAs text u front.Part → length u < 33554432
piece_part true u t = let l = t.1 in omega (arith, l)
piece_part false u t = part_small u t.0 t.1 t.2

-- of a client
pub client_part : (p : Peer) → p.role ≡ peer.Client → TakesPiece p.session.unread front.Part → ShortPart p.role p.session.unread
client_part p role takes = subst (λ (r : Role). ShortPart r p.session.unread) (sym role) (piece_part (begins_text p.session.unread) p.session.unread takes)

-- of a link
pub record_part : (u : List ℕ) → TakesRecord u take.Part → length u < 33554457
record_part u t = omega (arith, t.1.request, long t.0, t.2.1, ap length t.2.2, length-append u t.2.0)
