-- Worked rows: what a replica makes of the bytes of its link.
use Rattle.std.proofs.Common.{◌≡◌, ℕ, zero, suc, false, List, [], ◌∷◌, ◌++◌, refl}
use Rattle.ty_wire.specs.Reading.{fields_at, request_at}
use Rattle.ty_ulog.specs.Records.{record_at}
use Rattle.ty_ulog.specs.Updates.{update_in}
use Rattle.ty_slave.specs.declared.link.Step.{Step}
use Rattle.ty_slave.specs.declared.link.Step.TheVariants.{Part, Master, Take, Old, Gap, Bad}
use Rattle.ty_slave.specs.Lines.{Line, stepped}

-- a record of this request with these timestamps, whose server has the id 3
abbrev record_with : List ℕ → ℕ → ℕ → ℕ → List ℕ
record_with request size stamp before = 0xC9 ∷ 0 ∷ 0 ∷ 0 ∷ 0 ∷ 0 ∷ 0 ∷ 0 ∷ stamp ∷ 0 ∷ 0 ∷ 0 ∷ 0 ∷ 0 ∷ 0 ∷ 0 ∷ before ∷ 0 ∷ 3 ∷ 0 ∷ 3 ∷ 0 ∷ 0 ∷ 0 ∷ size ∷ request

abbrev vanish : List ℕ
vanish = 0xC8 ∷ 0x72 ∷ []

-- put of k with v
abbrev put : List ℕ
put = 0xC8 ∷ 0x10 ∷ 0 ∷ 0 ∷ 0 ∷ 1 ∷ 0 ∷ 0 ∷ 0 ∷ 1 ∷ 0x6B ∷ 0x76 ∷ []

abbrev iterinit : List ℕ
iterinit = 0xC8 ∷ 0x50 ∷ []

abbrev taken : List ℕ → ℕ → ℕ → Step
taken request stamp before = Take (record { stamp = stamp; before = before; server = 3; master = 3; request = request })

-- a replica with the id 9 that held nothing
abbrev line : List ℕ → Line
line bytes = record { own = 9; held = 0; named = false; unread = bytes }

abbrev id_of : ℕ → List ℕ
id_of n = 0 ∷ 0 ∷ 0 ∷ n ∷ []

-- what is taken is held
abbrev holds : Step → Line → Line
holds (Take r) l = record l { held = r.stamp }
holds _ l = l

abbrev steps : ℕ → Line → List Step
steps zero l = []
steps (suc n) l = let x = stepped l in x.0 ∷ steps n (holds x.0 x.1)

-- records with (timestamp, the one before) (1, 0), (2, 1), (2, 1), (1, 0), (3, 2), (5, 4): 1 to 3 are held, and then there is a gap
pub gap :
    steps 7 (line (id_of 3 ++ (record_with vanish 2 1 0 ++ (record_with vanish 2 2 1 ++ (record_with vanish 2 2 1 ++ (record_with vanish 2 1 0 ++ (record_with vanish 2 3 2 ++ record_with vanish 2 5 4)))))))
    ≡ Master 3 ∷ taken vanish 1 0 ∷ taken vanish 2 1 ∷ Old ∷ Old ∷ taken vanish 3 2 ∷ Gap 3 4 ∷ []
unfolding stepped record_at update_in request_at fields_at
gap = refl

-- what the master of two puts sends, and its second record once more
pub repeated :
    steps 5 (line (id_of 3 ++ (record_with put 12 7 0 ++ (record_with put 12 8 7 ++ record_with put 12 8 7)))) ≡ Master 3 ∷ taken put 7 0 ∷ taken put 8 7 ∷ Old ∷ Part ∷ []
unfolding stepped record_at update_in request_at fields_at
repeated = refl

-- a first byte 01 refuses
pub refused : steps 1 (line (1 ∷ [])) ≡ Bad ∷ []
unfolding stepped
refused = refl

-- so does the own id
pub own : steps 1 (line (id_of 9)) ≡ Bad ∷ []
unfolding stepped
own = refl

-- three bytes of an id are none yet
pub short : steps 1 (line (0 ∷ 0 ∷ 0 ∷ [])) ≡ Part ∷ []
unfolding stepped
short = refl

-- one that doesn't update is bad, and so is a byte that begins no record
pub bad : steps 2 (line (id_of 3 ++ record_with iterinit 2 1 0)) ≡ Master 3 ∷ Bad ∷ []
unfolding stepped record_at update_in request_at fields_at
bad = refl

pub other : steps 2 (line (id_of 3 ++ 0xC8 ∷ [])) ≡ Master 3 ∷ Bad ∷ []
unfolding stepped record_at
other = refl
