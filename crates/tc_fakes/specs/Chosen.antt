-- The image that a choice picks.
use Rattle.std.specs.Prelude.{ℕ, ◌+◌, ◌-◌, List, [], ◌∷◌, ◌++◌, length, take, drop, replicate, nat_le, if◌then◌else◌}
use Rattle.tc_base.specs.Files.{wrote}
use Rattle.tc_io.specs.Images.{Step, loaded, written, cut_to, synced, lost, reads}
use Rattle.tc_fakes.specs.declared.choice.Choice.{Choice}

-- what a step makes of what a file reads
abbrev pub made : Step → List ℕ → List ℕ
made (loaded bytes) r = bytes
made (written at bytes) r = wrote at bytes r
made (cut_to len) r = take len r
made synced r = r
made (lost now) r = now

-- what stands where these bytes were written over old ones
abbrev pub torn_over : Choice → List ℕ → List ℕ
torn_over c bytes = take c.keep bytes ++ replicate (length bytes - c.keep) c.fill

-- what a stopped write leaves of an image: nothing is added where it begins behind the image's end
unfoldable pub torn : Choice → ℕ → List ℕ → List ℕ → List ℕ
torn c at bytes i = if nat_le at (length i) then take at i ++ torn_over c (take (length i - at) bytes) ++ drop (at + length bytes) i ++ take c.keep (drop (length i - at) bytes) else i

-- what a stop leaves of an image by one step more, where the file read this
abbrev pub left : Choice → Step → List ℕ → List ℕ → List ℕ
left c (loaded bytes) r i = bytes
left c (written at bytes) r i = torn c at bytes i
left c (cut_to len) r i = if c.cut then take len i else i
left c synced r i = r
left c (lost now) r i = i

abbrev pub chosen : Choice → List Step → List ℕ
chosen c [] = []
chosen c (step ∷ s) = left c step (reads s) (chosen c s)
