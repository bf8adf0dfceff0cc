-- What a database holds over the files of its space.
use Rattle.std.specs.Prelude.{◌≡◌, ◌⊎◌, ◌||◌, ◌++◌, ◌≤◌, ℕ, Bool, true, false, List, [], ◌∷◌, Result, IfOk, OnErr}
use Rattle.std.proofs.Common.{◌∙◌, arith, refl, subst, sym}
use Rattle.tc_base.specs.Files.{Files}
use Rattle.tc_base.specs.declared.kind.Form.{Form}
use Rattle.tc_base.specs.declared.kind.Form.TheVariants.{Keep, Large}
use Rattle.tc_base.specs.declared.request.Request.{Request}
use Rattle.tc_space.specs.Frames.{OnlyReads, Others, Reads, Refuses, only_reads_refl, others_refl, others_then}
use Rattle.tc_space.specs.Moments.{Past}
use Rattle.tc_space.specs.Stores.{Only, in_form}
use Rattle.tc_space.specs.declared.space.Space.{Ghosts}
use Rattle.tc_model.specs.Contents.{Contents, Walk}
use Rattle.tc_model.specs.Apply.{Step, apply, updates}
use Rattle.tc_model.specs.Applying.{Applies}
use Rattle.tc_model.specs.Packing.{is_optimize}
use Rattle.tc_model.specs.declared.applied.Applied.{Applied}

-- how files are laid out: what their heads fix, the options first, then the other numbers and the bytes of who made them; how many whole units lie free in front of
-- the first block; and how many bytes hold nothing at their ends, behind what the heads say or in free blocks
pub record Layout : Type 0 where
  pub numbers : List ℕ
  pub lead : ℕ
  pub slack : ℕ

-- nothing is said of files, or there are none
abbrev pub no_layout : Files → Layout
no_layout files = record { numbers = []; lead = 0; slack = 0 }

-- the numbers stay, and no more lies free in front of the first block than did
pub record KeepsNumbers (old new : Layout) : Type 0 where
  pub same : new.numbers ≡ old.numbers
  pub lead : new.lead ≤ old.lead

-- the numbers are those of that form, and no more lies free in front of the first block than did
pub record FormsLayout (form : Form) (old new : Layout) : Type 0 where
  pub numbers : new.numbers ≡ in_form form old.numbers
  pub lead : new.lead ≤ old.lead

-- and no more bytes hold nothing at the end than did
pub record KeepsLayout (old new : Layout) : Type 0 where
  pub numbers : KeepsNumbers old new
  pub slack : new.slack ≤ old.slack

-- the numbers stay, and no byte at the end holds nothing
pub record IsTrimmed (old new : Layout) : Type 0 where
  pub numbers : KeepsNumbers old new
  pub none : new.slack ≡ 0

-- what stays of files: how its own are laid out, and those beside them
pub record Frame : Type 0 where
  pub layout : Layout
  pub files : Files

-- as files are
abbrev pub frame_of : (Files → Layout) → Files → Frame
frame_of layout files = record { layout = layout files; files = files }

-- files beside its own stay, but for the update log
abbrev pub KeepsBeside : (ℕ → Type 0) → Files → Files → Type 0
KeepsBeside own f g = (n : ℕ) → (own n → ⊥) → (n ≡ 2 → ⊥) → g n ≡ f n

-- its own are laid out alike, and those beside them stay
pub record KeepsFrame (own : ℕ → Type 0) (old new : Frame) : Type 0 where
  pub layout : KeepsLayout old.layout new.layout
  pub beside : KeepsBeside own old.files new.files

-- files that stand for contents are laid out like this, with no more bytes at the end that hold nothing, and those beside them are these
pub record Laid (own : ℕ → Type 0) (layout : Files → Layout) (l : Frame) (reopens : Files → Contents → Type 0) (files : Files) (c : Contents) : Type 0 where
  pub stand : reopens files c
  pub like : KeepsFrame own l (frame_of layout files)

-- it holds these contents, with the files as they are now
abbrev pub Held : {S B : Type 0} → Ghosts S → (B → Files → Contents → Type 0) → B → S → Contents → Type 0
Held s holds base space c = s.tells × holds base (s.now space) c

module _ {S B : Type 0} (s : Ghosts S) (holds : B → Files → Contents → Type 0) where
  -- of whatever is held
  abbrev pub OfHeld : B → S → (Contents → Type 0) → Type 0
  OfHeld base space P = (c : Contents) → Held s holds base space c → P c

  -- this is found in whatever is held
  abbrev pub FindsHeld : {A E : Type 0} → Result A E → (Contents → A) → B → S → Type 0
  FindsHeld result f base space = IfOk result (λ x. OfHeld base space (λ c. x ≡ f c))

  -- nothing is written, and what is held stays
  abbrev pub ReadsHeld : B → B → S → S → Type 0
  ReadsHeld base base' old new = Reads s (Held s holds) base base' old new

  -- after a refusal the space may not be used any more, or files and contents stay
  abbrev pub RefusesHeld : {A E : Type 0} → Result A E → B → B → S → S → Type 0
  RefusesHeld result base base' old new = OnErr result (Refuses s (Held s holds) base base' old new)

  -- what was held is held
  abbrev pub Remains : B → B → S → S → Type 0
  Remains base base' old new = OfHeld base old (λ c. Held s holds base' new c)

  -- besides, the files stand for it
  abbrev pub SettlesHeld : (Files → Contents → Type 0) → B → B → S → S → Type 0
  SettlesHeld reopens base base' old new = OfHeld base old (λ c. Held s holds base' new c × reopens (s.now new) c)

  -- of whatever is held: the numbers of the files stay, and they end where their heads say, in what holds something
  abbrev pub TrimsHeld : (Files → Layout) → B → S → S → Type 0
  TrimsHeld layout base old new = OfHeld base old (λ c. IsTrimmed (layout (s.now old)) (layout (s.now new)))

  -- of whatever is held: the numbers of the files are those of that form
  abbrev pub FormsHeld : (Files → Layout) → Form → B → S → S → Type 0
  FormsHeld layout form base old new = OfHeld base old (λ c. FormsLayout form (layout (s.now old)) (layout (s.now new)))

  -- the files stand for what is held
  abbrev pub FilesStand : (Files → Contents → Type 0) → B → S → Type 0
  FilesStand reopens base space = s.tells → (c : Contents) × holds base (s.now space) c × reopens (s.now space) c

  -- of whatever is held: it was packed in that form from the files as they were
  abbrev pub TightHeld : (B → Files → Form → Files → Type 0) → Form → B → B → S → S → Type 0
  TightHeld tight form base base' old new = OfHeld base old (λ c. tight base' (s.now old) form (s.now new))

  -- from which files it was packed, and in which form, from those in that form the files are packed now
  abbrev pub PacksHeld : (B → Files → Form → Files → Type 0) → (Files → Form → Files → Type 0) → B → S → S → Type 0
  PacksHeld tight packed base old new = (from : Files) (form : Form) (c : Contents) → tight base from form (s.now old) → Held s holds base old c → packed from form (s.now new)

  -- a packing had no room: the undo log is full, or what is held had none in the large form
  abbrev pub FullPack : (S → S → Contents → Type 0) → Form → B → S → S → Type 0
  FullPack lacks_large form base old new = OfHeld base old (λ c. s.log_full new ⊎ ((form ≡ Large) × lacks_large old new c))

-- these lines are told of the files
abbrev pub TellsLines : {S : Type 0} → Ghosts S → (Files → List ℕ → Type 0) → S → List ℕ → List ℕ → Type 0
TellsLines s lines space old new = s.tells → (text : List ℕ) × lines (s.now space) text × (new ≡ old ++ text)

-- what a request makes of the contents is held now
pub record Serves {S B : Type 0} (s : Ghosts S) (held : B → Files → Contents → Type 0) (step : Step) (r : Request) (a : Applied) (base : B) (space : S) (w : Walk) (old new : List ℕ) : Type 0 where
  pub contents : Contents
  pub holds : Held s held base space contents
  pub applies : Applies step r a contents w old new

-- of whatever was held, on a replica or not
abbrev pub ServedBy : {S B : Type 0} → Ghosts S → (B → Files → Contents → Type 0) → Bool → Request → Applied → B → B → S → S → Walk → Walk → List ℕ → List ℕ → Type 0
ServedBy s holds replica r a base base' old new w w' reply reply' = OfHeld s holds base old (λ c. Serves s holds (apply replica r c w) r a base' new w' reply reply')

-- the contents after a request
abbrev pub contents_after : Bool → Request → Walk → Contents → Contents
contents_after replica r w c = (apply replica r c w).contents

-- it was no change of the contents, and didn't pack the files
abbrev pub is_idle : Request → Applied → Type 0
is_idle r a = (a.updated ≡ false) × (is_optimize r ≡ false)

-- a request that may write files: one that may change contents, or pack the files
abbrev pub may_write : Request → Bool
may_write r = updates r || is_optimize r

-- a limit that is met behind a call is one by what was there before it
abbrev pub KeepsFills : {S B : Type 0} → Ghosts S → (B → S → S → Contents → Contents → Type 0) → B → B → S → S → Type 0
KeepsFills {S} s fills base base' old mid = s.tells → (new : S) (c d : Contents) → fills base' mid new c d → fills base old new c d

-- a limit that was met in some call since a space stood so was met since it stood as earlier
pub record IsEarlier {S : Type 0} (now : S → Files) (fills_since : S → S → Contents → Contents → Type 0) (lacks_large : S → S → Contents → Type 0) (a b new : S) : Type 0 where
  pub fills : (c d : Contents) → fills_since b new c d → fills_since a new c d
  -- where files are written anew, only if they were the same
  pub large : now a ≡ now b → (c : Contents) → lacks_large b new c → lacks_large a new c

-- a limit is reached between whatever contents: that of the undo log
abbrev pub FillsAll : (Contents → Contents → Type 0) → Type 0
FillsAll fills = (c d : Contents) → fills c d

-- a limit is reached, where a request may write, between what is held and what it makes of that; where it packs the files, that of the undo log
pub record FillsBy {S B : Type 0} (s : Ghosts S) (holds : B → Files → Contents → Type 0) (fills : Contents → Contents → Type 0) (r : Request) (base : B) (space : S) (after : Contents → Contents) : Type 0 where
  pub writes : may_write r ≡ true
  pub packs : is_optimize r ≡ true → s.tells → FillsAll fills
  pub by : (c : Contents) → Held s holds base space c → fills c (after c)

-- it may be used: so may the space, and some contents are held where files are told
pub record IsReady {S B : Type 0} (s : Ghosts S) (holds : B → Files → Contents → Type 0) (base : B) (space : S) : Type 0 where
  pub sound : s.sound space
  pub held : s.tells → (c : Contents) × holds base (s.now space) c

-- a file stays
pub record Stays {S : Type 0} (s : Ghosts S) (file : ℕ) (old new : S) : Type 0 where
  pub same : s.tells → s.now new file ≡ s.now old file

-- the numbers of its files stay, and no more bytes hold nothing at their ends than did
abbrev pub StaysLaid : {S : Type 0} → Ghosts S → (Files → Layout) → S → S → Type 0
StaysLaid s layout old new = s.tells → KeepsLayout (layout (s.now old)) (layout (s.now new))

-- the space may be used, and files that aren't its own stay
pub record StaysUsable {S : Type 0} (s : Ghosts S) (own : ℕ → Type 0) (old new : S) : Type 0 where
  pub sound : s.sound new
  pub others : Others s own old new

-- besides, the numbers of its files stay, and nothing is written where it is idle
pub record Leaves {S : Type 0} (s : Ghosts S) (own : ℕ → Type 0) (layout : Files → Layout) (idle : Type 0) (old new : S) : Type 0 where
  pub sound : s.sound new
  pub others : Others s own old new
  pub numbered : s.tells → KeepsNumbers (layout (s.now old)) (layout (s.now new))
  pub reads : idle → OnlyReads s old new

-- the space may not be used any more, or files, contents and walk stay
abbrev pub Declines : {S B : Type 0} → Ghosts S → (B → Files → Contents → Type 0) → B → B → S → S → Walk → Walk → Type 0
Declines s holds base base' old new walk walk' = (s.flag new ≡ false) ⊎ (Reads s (Held s holds) base base' old new × (walk' ≡ walk))

pub numbers_refl : (a : Layout) → KeepsNumbers a a
numbers_refl a = record { same = refl; lead = omega arith }

pub numbers_then : (a b c : Layout) → KeepsNumbers a b → KeepsNumbers b c → KeepsNumbers a c
numbers_then a b c first second = record { same = second.same ∙ first.same; lead = omega (arith, first.lead, second.lead) }

pub numbers_stay : (a b : Layout) → b ≡ a → KeepsNumbers a b
numbers_stay a b same = subst (λ (l : Layout). KeepsNumbers a l) (sym same) (numbers_refl a)

module _ {S : Type 0} (s : Ghosts S) where
  pub stays_refl : (file : ℕ) (a : S) → Stays s file a a
  stays_refl file a = record { same = λ t. refl }

  pub stays_then : (file : ℕ) (a b c : S) → Stays s file a b → Stays s file b c → Stays s file a c
  stays_then file a b c first second = record { same = λ t. second.same t ∙ first.same t }

  pub log_stays : (own : ℕ → Type 0) (a b : S) → (own 2 → ⊥) → Others s own a b → Stays s 2 a b
  log_stays own a b other others = record { same = λ t. others.same t 2 other }

  pub leaves_nothing : (own : ℕ → Type 0) (layout : Files → Layout) (idle : Type 0) (a : S) → s.sound a → Leaves s own layout idle a a
  leaves_nothing own layout idle a is = record { sound = is; others = others_refl s own a; numbered = λ t. numbers_refl (layout (s.now a)); reads = λ i. only_reads_refl s a is }

  pub leaves_less : (own : ℕ → Type 0) (layout : Files → Layout) (idle less : Type 0) (a b : S) → (less → idle) → Leaves s own layout idle a b → Leaves s own layout less a b
  leaves_less own layout idle less a b fewer l = record { sound = l.sound; others = l.others; numbered = l.numbered; reads = λ i. l.reads (fewer i) }

  -- whether nothing was written or not
  pub leaves_on : (own : ℕ → Type 0) (layout : Files → Layout) (a b c : S) → Leaves s own layout ⊥ a b → Leaves s own layout ⊥ b c → Leaves s own layout ⊥ a c
  leaves_on own layout a b c first second = record { sound = second.sound; others = others_then s own a b c first.others second.others; numbered = λ t. numbers_then (layout (s.now a)) (layout (s.now b)) (layout (s.now c)) (first.numbered t) (second.numbered t); reads = λ never. absurd never }

-- ---- layouts

pub layout_refl : (a : Layout) → KeepsLayout a a
layout_refl a = record { numbers = numbers_refl a; slack = omega arith }

pub layout_then : (a b c : Layout) → KeepsLayout a b → KeepsLayout b c → KeepsLayout a c
layout_then a b c first second = record { numbers = numbers_then a b c first.numbers second.numbers; slack = omega (arith, first.slack, second.slack) }

-- where no byte at the end holds nothing, no more do
pub trimmed_keeps : (a b : Layout) → IsTrimmed a b → KeepsLayout a b
trimmed_keeps a b trims = record { numbers = trims.numbers; slack = omega (arith, trims.none) }

pub frame_refl : (own : ℕ → Type 0) (a : Frame) → KeepsFrame own a a
frame_refl own a = record { layout = layout_refl a.layout; beside = λ n other log. refl }

pub frame_then : (own : ℕ → Type 0) (a b c : Frame) → KeepsFrame own a b → KeepsFrame own b c → KeepsFrame own a c
frame_then own a b c first second = record { layout = layout_then a.layout b.layout c.layout first.layout second.layout; beside = λ n other log. second.beside n other log ∙ first.beside n other log }

pub others_beside : {S : Type 0} (s : Ghosts S) (own : ℕ → Type 0) (a b : S) → s.tells → Others s own a b → KeepsBeside own (s.now a) (s.now b)
others_beside s own a b t others = λ n other log. others.same t n other

pub laid_then : (own : ℕ → Type 0) (layout : Files → Layout) (reopens : Files → Contents → Type 0) (l k : Frame) (files : Files) (c : Contents) → KeepsFrame own l k → Laid own layout k reopens files c → Laid own layout l reopens files c
laid_then own layout reopens l k files c first laid = record { stand = laid.stand; like = frame_then own l k (frame_of layout files) first laid.like }

-- files beside them stay, whatever is said of their own
pub beside_laid : (own : ℕ → Type 0) (layout : Files → Layout) (reopens : Files → Contents → Type 0) (l k : Frame) (files : Files) (c : Contents) → KeepsFrame own l (frame_of no_layout k.files) → Laid own layout k reopens files c → Laid own no_layout l reopens files c
beside_laid own layout reopens l k files c was laid = record { stand = laid.stand; like = record { layout = was.layout; beside = λ n other log. laid.like.beside n other log ∙ was.beside n other log } }

-- in the form that it has the numbers stay
pub in_form_keep : (numbers : List ℕ) → in_form Keep numbers ≡ numbers
in_form_keep [] = refl
in_form_keep (n ∷ ns) = refl

pub forms_keep : (a b : Layout) → FormsLayout Keep a b → KeepsNumbers a b
forms_keep a b forms = record { same = forms.numbers ∙ in_form_keep a.numbers; lead = forms.lead }

-- a form that they have already changes nothing more
pub in_form_again : (form : Form) (numbers : List ℕ) → in_form form (in_form form numbers) ≡ in_form form numbers
in_form_again form [] = refl
in_form_again Keep (n ∷ ns) = refl
in_form_again Large (n ∷ ns) = refl

-- files that may differ in others than these
abbrev pub AreApart : (ℕ → Type 0) → Files → Files → Type 0
AreApart own f g = (n : ℕ) → own n → g n ≡ f n

-- what is said of files f is so of files g
pub record SaysAlike (holds reopens : Files → Contents → Type 0) (layout : Files → Layout) (packed : Files → Form → Files → Type 0) (lines : Files → List ℕ → Type 0) (f g : Files) : Type 0 where
  pub held : (c : Contents) → holds f c → holds g c
  pub stand : (c : Contents) → reopens f c → reopens g c
  pub laid : layout g ≡ layout f
  pub tight : (from : Files) (form : Form) → packed from form f → packed from form g
  pub tight_from : (form : Form) (files : Files) → packed f form files → packed g form files
  pub told : (text : List ℕ) → lines f text → lines g text

-- neither the undo log's file nor the update log's
abbrev pub NoLogs : (ℕ → Type 0) → Type 0
NoLogs own = (own 1 → ⊥) × (own 2 → ⊥)

pub main_no_log : NoLogs (Only 0)
main_no_log = ((λ e. absurd (omega (arith, e))), (λ e. absurd (omega (arith, e))))

pub main_apart : (f g : Files) → AreApart (Only 0) f g → f 0 ≡ g 0
main_apart f g apart = sym (apart 0 refl)

-- the files that a space had at a moment, whose bytes it was over then, and which may have been written since
pub record IsPast {S : Type 0} (s : Ghosts S) (before now : S) : Type 0 where
  pub later : s.moment before ≤ s.moment now
  pub files : s.files_at now (s.moment before) ≡ s.now before

pub past_of : {S : Type 0} (s : Ghosts S) (a b : S) → s.tells → s.files_at a (s.moment a) ≡ s.now a → Past s.moment s.files_at a b → IsPast s a b
past_of s a b t present past = record { later = past.later; files = past.same (s.moment a) (omega arith) ∙ present }

pub past_since : {S : Type 0} (s : Ghosts S) (a b c : S) → IsPast s a b → Past s.moment s.files_at b c → IsPast s a c
past_since s a b c is past = record { later = omega (arith, is.later, past.later); files = past.same (s.moment a) is.later ∙ is.files }
