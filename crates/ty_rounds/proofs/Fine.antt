-- What the server's connections hold was sent a front of what is owed.
use Rattle.std.proofs.Common.{inl, List, [], ◌∷◌, ◌++◌, sym, subst}
use Rattle.ty_world.specs.Clients.{Client, Role}
use Rattle.ty_world.specs.Answers.{AllFine}
use Rattle.ty_world.proofs.Fine.{OwedAs, FineFed, AllFed, fed_fine}
use Rattle.ty_rounds.specs.Books.{Book}
use Rattle.ty_rounds.specs.Holding.{Holds, AllHold, PlaysAs, coming}
use Rattle.ty_rounds.specs.declared.peer.Peer.{Peer}
use Rattle.ty_rounds.specs.declared.peer.Role.{Role as PeerRole}
use Rattle.ty_rounds.specs.declared.peer.Role.TheVariants as peer

hold_one : (b : Book) (p : Peer) (k : Client) → Holds b p k → FineFed b.records k
hold_one b p k h = record { fine = (p.session.waiting ++ coming b p.role, h.owed); owed = go p.role h.plays }
  where
    go : (r : PeerRole) → PlaysAs b r p.session.unread k → OwedAs b.records k.role k
    go peer.Client x = subst (λ (r : Role). OwedAs b.records r k) (sym x.role_is) tt
    go (peer.Fed f) x = subst (λ (r : Role). OwedAs b.records r k) (sym x.role_is) (inl x.owed)
    go (peer.Called m) x = subst (λ (r : Role). OwedAs b.records r k) (sym x.role_is) tt

pub hold_fed : (b : Book) (ps : List Peer) (ks : List Client) → AllHold b ps ks → AllFed b.records ks
hold_fed b [] [] h = tt
hold_fed b (p ∷ ps) (k ∷ ks) h = (hold_one b p k h.0, hold_fed b ps ks h.1)
hold_fed b [] (k ∷ ks) h = absurd h
hold_fed b (p ∷ ps) [] h = absurd h

pub hold_fine : (b : Book) (ps : List Peer) (ks : List Client) → AllHold b ps ks → AllFine ks
hold_fine b ps ks h = fed_fine b.records ks (hold_fed b ps ks h)
