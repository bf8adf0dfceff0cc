-- A server between its turns, and what a turn does to it.
use Rattle.std.specs.Prelude.{ℕ, List, Option, Result}
use Rattle.tc_base.specs.Files.{Files}
use Rattle.tc_io.specs.declared.wire.Wire as wire
use Rattle.tc_space.specs.declared.space.Space as space
use Rattle.tc_model.specs.Contents.{Contents}
use Rattle.ty_base.specs.Holding.{Frame, Laid, Layout}
use Rattle.ty_rounds.specs.Holding.{State}
use Rattle.ty_rounds.specs.Ready.{IsReady}
use Rattle.ty_rounds.specs.Turns.{TurnsFull}
use Rattle.ty_rounds.specs.declared.outcome.Outcome.{Outcome}
use Rattle.ty_rounds.specs.declared.outcome.TurnErr.{TurnErr}
use Rattle.ty_rounds.specs.declared.server.Server.{Server}

-- what it is besides its base
abbrev pub state : {B : Type 0} → Server B → State
state a = record { logged = a.logged; due = a.due; walk = a.walk; peers = a.peers.items }

module _ {S B W : Type 0} (s : space.Ghosts S) (g : wire.Ghosts W) (holds : B → Files → Contents → Type 0) where
  abbrev pub IsReadyAs : Server B → S → W → Type 0
  IsReadyAs a space wire = IsReady s g holds a.base space wire a.logged a.peers.items

  -- with what a clock answers
  abbrev pub TurnsAs : {K : Type 0} → (Files → Contents → Type 0) → (S → S → Contents → Contents → Type 0) → (K → Option (List ℕ)) → Result Outcome TurnErr → Server B → Server B → S → S → W → W → K → K → Type 0
  TurnsAs reopens fills answers result a b old new x y k l = TurnsFull s g holds reopens fills result a.base b.base old new x y (answers k) (answers l) (state a) (state b)

  -- whatever the files are laid out like
  abbrev pub TurnsLaid : {K : Type 0} → (ℕ → Type 0) → (Files → Layout) → (Files → Contents → Type 0) → (S → S → Contents → Contents → Type 0) → (K → Option (List ℕ)) → Result Outcome TurnErr → Server B → Server B → S → S → W → W → K → K → Type 0
  TurnsLaid own layout reopens fills answers result a b old new x y k l = (f : Frame) → TurnsFull s g holds (Laid own layout f reopens) fills result a.base b.base old new x y (answers k) (answers l) (state a) (state b)
