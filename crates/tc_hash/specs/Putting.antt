-- What a put answers.
use Rattle.std.specs.Prelude.{◌≡◌, ℕ, ◌<◌, ◌≤◌, true, List, length, option_map, is_some, Option, None, Some}
use Rattle.std.specs.FinMap.{get}
use Rattle.tc_base.specs.Maps.{Map}
use Rattle.tc_base.specs.declared.kind.Mode.{Mode}
use Rattle.tc_base.specs.declared.kind.Mode.TheVariants.{Cat, Keep}
use Rattle.tc_space.specs.Changes.{is_in, out_of, put_in, put_value, value_in}
use Rattle.tc_space.specs.Stores.{Exists, Only, Puts, TakesOut}
use Rattle.tc_space.specs.declared.space.Space.{Ghosts}
use Rattle.hf_chain.specs.declared.finding.Place.{Place}
use Rattle.hf_record.specs.Moves.{HasRoom}
use Rattle.hf_record.specs.Searching.{IsFound}
use Rattle.tc_hash.specs.declared.hash.Hash.{Hash}
use Rattle.tc_hash.specs.declared.put.Put.{Put}
use Rattle.tc_hash.specs.declared.put.Put.TheVariants as put
use Rattle.tc_hash.specs.Keeping.{CanCall, GivesValue, LacksBlock, Looks, Means, TakesOwn, file_of}

module _ {S : Type 0} (s : Ghosts S) where
  -- it may be called, and the record of a key was found there
  pub record CanCallAt (key : List ℕ) (place : Place) (v : Hash S) (space : S) : Type 0 where
    pub ready : CanCall s v space
    pub found : IsFound s v.body key space place

  -- besides, its block has so many bytes
  pub record CanCallIn (key : List ℕ) (place : Place) (room : ℕ) (v : Hash S) (space : S) : Type 0 where
    pub ready : CanCall s v space
    pub found : IsFound s v.body key space place
    pub block : HasRoom s v.body place.at room space

  -- a key was given a value: with Keep it had none
  abbrev pub PutsValue : Mode → List ℕ → List ℕ → Hash S → Hash S → S → S → Type 0
  PutsValue mode key value v v' old new = Puts s (Only (file_of v)) (Means s) mode (value_in key) (put_in mode key value) v v' old new × GivesValue s mode key value 512 v v' old new

  -- the key is held and was to be kept
  abbrev pub IsKept : Mode → List ℕ → Hash S → Hash S → S → S → Type 0
  IsKept mode key v v' old new = Exists s (Means s) mode (value_in key) v v' old new

  -- so many bytes were allowed, the value has no more, and this is how many the old one had
  pub record StoresWithin (mode : Mode) (key value : List ℕ) (most : ℕ) (was : Option ℕ) (v v' : Hash S) (old new : S) : Type 0 where
    pub puts : PutsValue mode key value v v' old new
    pub was_is : (m : Map) → Means s v old m → was ≡ option_map length (get m key)
    pub fits : (m : Map) → Means s v old m → length (put_value mode (get m key) value) ≤ most

  -- the block for the record of a key wasn't to be had. With Keep the key has none
  pub record LacksFor (mode : Mode) (key value : List ℕ) (v : Hash S) (old new : S) : Type 0 where
    pub free : mode ≡ Keep → (m : Map) → Means s v old m → get m key ≡ None
    pub block : LacksBlock s mode key value v old new

  -- and the value has no more bytes than are allowed
  pub record LacksWithin (mode : Mode) (key value : List ℕ) (most : ℕ) (v : Hash S) (old new : S) : Type 0 where
    pub lacks : LacksFor mode key value v old new
    pub fits : (m : Map) → Means s v old m → length (put_value mode (get m key) value) ≤ most

  -- the value would have more, and nothing has changed. The key isn't one to be kept
  pub record IsValueTooLong (mode : Mode) (key value : List ℕ) (most : ℕ) (v v' : Hash S) (old new : S) : Type 0 where
    pub long : (m : Map) → Means s v old m → most < length (put_value mode (get m key) value)
    pub free : mode ≡ Keep → (m : Map) → Means s v old m → get m key ≡ None
    pub looks : Looks s v v' old new

  abbrev pub Answers : Mode → List ℕ → List ℕ → ℕ → Put → Hash S → Hash S → S → S → Type 0
  Answers mode key value most (put.Stored was) v v' old new = StoresWithin mode key value most was v v' old new
  Answers mode key value most put.Held v v' old new = IsKept mode key v v' old new
  Answers mode key value most put.TooLong v v' old new = IsValueTooLong mode key value most v v' old new

  -- a key was taken out, whose value had so many bytes; or it isn't held, and nothing has changed
  pub record TakesLen (key : List ℕ) (was : Option ℕ) (v v' : Hash S) (old new : S) : Type 0 where
    pub was_is : (m : Map) → Means s v old m → was ≡ option_map length (get m key)
    pub out : TakesOut s (Only (file_of v)) (Means s) (is_in key) (out_of key) (is_some was) v v' old new
    pub own : is_some was ≡ true → (m : Map) → Means s v old m → TakesOwn s key m v v' old new

-- the bytes that a put reads of the value that the key had: all of it where it joins others behind it
abbrev pub joined_to : Mode → Put → ℕ
joined_to Cat (put.Stored (Some was)) = was
joined_to mode p = 0
