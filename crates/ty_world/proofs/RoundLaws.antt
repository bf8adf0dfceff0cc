-- A round that updates nothing and takes no record leaves the contents.
use Rattle.std.proofs.Common.{◌≡◌, ℕ, Bool, true, false, cond, List, [], ◌∷◌, ◌++◌, refl, ap, ◌∙◌}
use Rattle.std.proofs.lemmas.Bool.{or_from, or_parts}
use Rattle.std.proofs.lemmas.List.{append-nil}
use Rattle.std.specs.Prelude.{Option, Some, None, Ok, Err}
use Rattle.tc_base.specs.declared.request.Request.{Request}
use Rattle.tc_base.specs.Reading.{Front}
use Rattle.tc_model.specs.Contents.{Contents, Walk}
use Rattle.tc_model.specs.Apply.{Step, apply}
use Rattle.ty_memc.specs.declared.text.Piece.{Piece}
use Rattle.ty_pieces.proofs.PieceLaws.{done_idle, done_quiet}
use Rattle.ty_ulog.specs.declared.record.Record.{Record}
use Rattle.ty_ulog.specs.Log.{last_of}
use Rattle.ty_ulog.specs.Updates.{update_in}
use Rattle.ty_slave.specs.declared.link.Step.{Step as Look}
use Rattle.ty_slave.specs.declared.link.Step.TheVariants.{Part, Master, Take, Old, Gap, Bad}
use Rattle.ty_slave.specs.Lines.{looks}
use Rattle.ty_world.specs.Logs.{Settings, is_replica, news, file_after, records_after}
use Rattle.ty_world.specs.Clients.{Client, Role, of_client, of_feed, to_master, front_of}
use Rattle.ty_world.specs.Links.{Dealt, unmoved, redone, dealt, line_of, look_at, look_next, look_all}
use Rattle.ty_world.specs.Rounds.{Round, Rounded, served, round_one, round_all, look_of, round_of_all, has_any, marks_in, commits_of}

nil_parts : {A : Type 0} (xs ys : List A) → xs ++ ys ≡ [] → (xs ≡ []) × (ys ≡ [])
nil_parts [] ys e = (refl, e)
nil_parts (x ∷ xs) ys e = absurd cc

one_idle : (is : Settings) (c : Contents) (w : Walk) (k : Client) → (round_one is c w k).made.updates ≡ [] → (round_one is c w k).made.contents ≡ c
unfolding round_one
one_idle is c w k = go (front_of k)
  where
    go : (f : Front Piece) → (served is c w k f).made.updates ≡ [] → (served is c w k f).made.contents ≡ c
    go (Ok x) e = done_idle (is_replica is) x.0 c w e
    go (Err d) e = refl

pub round_idle : (is : Settings) (c : Contents) (w : Walk) (ks : List Client) → (round_all is c w ks).made.updates ≡ [] → (round_all is c w ks).made.contents ≡ c
round_idle is c w [] e = refl
round_idle is c w (k ∷ ks) e =
    let one = (round_one is c w k).made in
    let s = nil_parts one.updates (round_all is one.contents one.walk ks).made.updates e in
    round_idle is one.contents one.walk ks s.1 ∙ one_idle is c w k s.0

one_quiet : (is : Settings) (c : Contents) (w : Walk) (k : Client) → (round_one is c w k).made.commits ≡ false → (round_one is c w k).made.updates ≡ []
unfolding round_one
one_quiet is c w k = go (front_of k)
  where
    go : (f : Front Piece) → (served is c w k f).made.commits ≡ false → (served is c w k f).made.updates ≡ []
    go (Ok x) e = done_quiet (is_replica is) x.0 c w e
    go (Err d) e = refl

-- where there is nothing to commit, nothing was updated
pub round_quiet : (is : Settings) (c : Contents) (w : Walk) (ks : List Client) → (round_all is c w ks).made.commits ≡ false → (round_all is c w ks).made.updates ≡ []
round_quiet is c w [] e = refl
round_quiet is c w (k ∷ ks) e =
    let one = (round_one is c w k).made in
    let s = or_parts one.commits (round_all is one.contents one.walk ks).made.commits e in
    ap (λ (l : List (List ℕ)). l ++ (round_all is one.contents one.walk ks).made.updates) (one_quiet is c w k s.0) ∙ round_quiet is one.contents one.walk ks s.1

-- ---- the link's part

abbrev pub IsStill : Contents → Dealt → Type 0
IsStill c d = d.taken ≡ [] → d.contents ≡ c

redone_still : (r : Record) (o : Option Request) (c : Contents) (w : Walk) → IsStill c (redone r o c w)
redone_still r None c w e = refl
redone_still r (Some q) c w e = go (apply false q c w) (apply false q c w).ok e
  where
    go : (s : Step) (ok : Bool) → IsStill c (cond {A = Dealt} ok (record { contents = s.contents; walk = s.walk; taken = r ∷ []; gap = []; broken = false }) (unmoved c w true))
    go s true e = absurd cc
    go s false e = refl

dealt_still : (x : Look) (c : Contents) (w : Walk) → IsStill c (dealt x c w)
dealt_still Part c w e = refl
dealt_still (Master id) c w e = refl
dealt_still (Take r) c w e = redone_still r (update_in r.request) c w e
dealt_still Old c w e = refl
dealt_still (Gap a b) c w e = refl
dealt_still Bad c w e = refl

look_at_still : (own held : ℕ) (c : Contents) (w : Walk) (named broken : Bool) (k : Client) (ks : List Client) → IsStill c (look_at own held c w named broken k ks).dealt_is
unfolding look_at
look_at_still own held c w named broken k ks = dealt_still (looks (line_of own held named k)).0 c w

pub look_still : (own held : ℕ) (c : Contents) (w : Walk) (ks : List Client) → IsStill c (look_all own held c w ks).dealt_is
look_still own held c w [] e = refl
look_still own held c w (k ∷ ks) e = go k.role (look_still own held c w ks) e
  where
    go : (r : Role) → IsStill c (look_all own held c w ks).dealt_is → IsStill c (look_next own held c w r k ks (look_all own held c w ks)).dealt_is
    go of_client rest e = rest e
    go (of_feed above base) rest e = rest e
    go (to_master named broken) rest e = look_at_still own held c w named broken k ks e

look_of_still : (is : Settings) (log : List Record) (r : Round) → IsStill r.made.contents (look_of is log r).dealt_is
look_of_still is log r = go (is_replica is)
  where
    go : (b : Bool) → IsStill r.made.contents (cond b (look_all is.own (last_of 0 log) r.made.contents r.made.walk r.clients) (record { dealt_is = unmoved r.made.contents r.made.walk false; clients = r.clients })).dealt_is
    go true e = look_still is.own (last_of 0 log) r.made.contents r.made.walk r.clients e
    go false e = refl

-- ---- both

none_has : {A : Type 0} (xs : List A) → has_any xs ≡ false → xs ≡ []
none_has [] e = refl
none_has (x ∷ xs) e = absurd cc

pub marks_none : (d : Rounded) → marks_in d ≡ false → (d.round.made.updates ≡ []) × (d.looked.dealt_is.taken ≡ [])
marks_none d e = let s = or_parts (has_any d.round.made.updates) (has_any d.looked.dealt_is.taken) e in (none_has d.round.made.updates s.0, none_has d.looked.dealt_is.taken s.1)

pub all_idle : (is : Settings) (log : List Record) (c : Contents) (w : Walk) (ks : List Client) → marks_in (round_of_all is log c w ks) ≡ false → (round_of_all is log c w ks).looked.dealt_is.contents ≡ c
all_idle is log c w ks e =
    let n = marks_none (round_of_all is log c w ks) e in
    look_of_still is log (round_all is c w ks) n.1 ∙ round_idle is c w ks n.0

pub all_quiet : (is : Settings) (log : List Record) (c : Contents) (w : Walk) (ks : List Client) → commits_of (round_of_all is log c w ks) ≡ false → marks_in (round_of_all is log c w ks) ≡ false
all_quiet is log c w ks e =
    let d = round_of_all is log c w ks in
    let s = or_parts d.round.made.commits (has_any d.looked.dealt_is.taken) e in
    or_from (has_any d.round.made.updates) (has_any d.looked.dealt_is.taken) (ap has_any (round_quiet is c w ks s.0)) s.1

-- ---- nothing new

pub news_none : (is : Settings) (log : List Record) (ticks : List ℕ) → news is log ticks [] [] ≡ []
news_none is log ticks = go is.logs
  where
    go : (b : Bool) → cond {A = List Record} b [] [] ≡ []
    go true = refl
    go false = refl

pub file_none : (is : Settings) (file : List ℕ) → file_after is file [] ≡ file
file_none is file = go is.logs
  where
    go : (b : Bool) → cond b (file ++ []) file ≡ file
    go true = append-nil file
    go false = refl

pub records_none : (is : Settings) (log : List Record) → records_after is log [] ≡ log
records_none is log = go is.logs
  where
    go : (b : Bool) → cond b (log ++ []) log ≡ log
    go true = append-nil log
    go false = refl
