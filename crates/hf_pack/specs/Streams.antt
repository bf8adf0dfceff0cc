-- Bytes written over those of a file, one after the other.
use Rattle.std.specs.Prelude.{◌≡◌, ℕ, ◌+◌, ◌≤◌, List, ◌++◌, length, take, drop}
use Rattle.tc_space.specs.Ranges.{Reaches}
use Rattle.tc_space.specs.declared.space.Space.{Ghosts}
use Rattle.hf_pack.specs.declared.stream.Stream.{Stream}

-- the bytes of a file in front of where a stream stands, and those that it holds
abbrev pub front_of : Stream → List ℕ → List ℕ
front_of s bytes = take s.at bytes ++ s.out

-- where its bytes end
abbrev pub end_of : Stream → ℕ
end_of s = s.at + length s.out

-- bytes came behind those in front; what stands behind them is as before
pub record Pushed (s s' : Stream) (old new xs : List ℕ) : Type 0 where
  pub front : front_of s' new ≡ front_of s old ++ xs
  pub behind : (n : ℕ) → end_of s' ≤ n → drop n new ≡ drop n old
  pub ends : end_of s' ≡ end_of s + length xs
  pub long : length new ≡ length old

-- these bytes stand over those of a file from one place up to another
pub record Written (from end : ℕ) (old new xs : List ℕ) : Type 0 where
  pub front : take end new ≡ take from old ++ xs
  pub behind : (n : ℕ) → end ≤ n → drop n new ≡ drop n old
  pub ends : end ≡ from + length xs
  pub long : length new ≡ length old

-- ---- in a file of a space, where its bytes are told

-- bytes came behind those in front,
abbrev pub PushedIn : {S : Type 0} → Ghosts S → ℕ → Stream → Stream → S → S → List ℕ → Type 0
PushedIn s file t t' old new xs = s.tells → Pushed t t' (s.now old file) (s.now new file) xs

-- or so many that stood there from a place on
abbrev pub CopiedIn : {S : Type 0} → Ghosts S → ℕ → Stream → Stream → S → S → ℕ → ℕ → Type 0
CopiedIn s file t t' old new from count = s.tells → Pushed t t' (s.now old file) (s.now new file) (take count (drop from (s.now old file)))

-- the bytes from a place on lie behind a stream, and so many of them in the file
pub record IsBehind (t : Stream) (from count : ℕ) (bytes : List ℕ) : Type 0 where
  pub behind : end_of t ≤ from
  pub inside : from + count ≤ length bytes

abbrev pub LiesBehind : {S : Type 0} → Ghosts S → ℕ → Stream → ℕ → ℕ → S → Type 0
LiesBehind s file t from count space = s.tells → IsBehind t from count (s.now space file)

-- this is a data file, of at least so many bytes
abbrev pub ReachesIn : {S : Type 0} → Ghosts S → S → ℕ → ℕ → Type 0
ReachesIn s space file upto = Reaches s.tells (s.now space) file upto
