use Rattle.std.proofs.Common.{◌≡◌, ◌∙◌, ℕ, [], ap}
use Rattle.std.proofs.lemmas.Result.{on_ok_weaker}
use Rattle.tc_held.specs.Held.{Brings, over}
use Rattle.tc_held.proofs.History.{stays_told}
use Rattle.tc_held.proofs.held_space.HeldSpaceSpace.give_up.Goals as goal

pub returns-clause-stays : goal.returns-clause-stays
returns-clause-stays g c =
    stays_told g.S.Space (λ s. s.stood.items) (λ s. s.below) (λ s. s.held) c.args.self.now _ (ap (λ s. s.stood.items) c.let_go.ensures.same ∙ c.and.ensures) g.met.S.Space.earlier c.requires.sound.rises c.let_go.ensures.keeps

pub returns-clause-brought : goal.returns-clause-brought
returns-clause-brought g c =
    let s = g.S.Space in
    let old = c.args.self.now in
    let new = c.let_go.new.self in
    on_ok_weaker
    {P = Brings s old.below new.below old.held new.held}
    {Q = (new.held.pieces.items ≡ []) × s.brought new.below}
    c.let_go.result (λ b. (b.none, g.met.S.Batched.all new.below)) c.let_go.ensures.brings

pub returns-clause-now : goal.returns-clause-now
returns-clause-now g c =
    let s = g.S.Space in
    let old = c.args.self.now in
    let new = c.let_go.new.self in
    on_ok_weaker
    {P = Brings s old.below new.below old.held new.held}
    {Q = s.tells → (h : ℕ) → over new.held (s.now new.below) h ≡ over old.held (s.now old.below) h}
    c.let_go.result
    (λ b t h. b.same t h)
    c.let_go.ensures.brings
