-- The definitions of what is owed, computed on worked input.
use Rattle.std.proofs.Common.{◌≡◌, ℕ, List, [], ◌∷◌, ◌++◌, ap, refl, true, false}
use Rattle.std.specs.Prelude.{Option, None, option_map, codes}
use Rattle.std.specs.FinMap.{empty, insert, get-empty, get-insert}
use Rattle.std.specs.Ordering.{nat_cmp}
use Rattle.std.specs.Cmp.Lexicographic.{slice_cmp, nat_list_cmp_total}
use Rattle.tc_base.specs.Maps.{Map}
use Rattle.tc_base.specs.declared.request.Reply.TheVariants as reply
use Rattle.tc_base.specs.declared.request.Request.TheVariants.{Get}
use Rattle.tc_io.specs.declared.wire.At.TheVariants.{Pipe}
use Rattle.tc_io.specs.declared.wire.Entry.TheVariants.{Open, Dial, Event, Send, Close}
use Rattle.tc_io.specs.declared.wire.Ev.TheVariants.{Opened, Read, Quiet, Ended}
use Rattle.tc_io.specs.declared.wire.Dialled.TheVariants.{Conn}
use Rattle.tc_io.specs.declared.wire.Sent.TheVariants.{Took}
use Rattle.tc_model.specs.Apply.{apply, tells, took}
use Rattle.tc_model.specs.Contents.{hash}
use Rattle.ty_wire.specs.Reading.{request_at, fields_at}
use Rattle.ty_wire.specs.Spelling.{spelling, reply_bytes}
use Rattle.ty_memc.specs.Grammar.{piece_at}
use Rattle.ty_slave.specs.Lines.{stepped}
use Rattle.ty_ulog.specs.Log.{records_from, records_in}
use Rattle.ty_ulog.specs.Records.{head_at, record_at, record_bytes}
use Rattle.ty_ulog.specs.Updates.{update_in}
use Rattle.ty_world.specs.Links.{look_at}
use Rattle.ty_world.specs.Rounds.{round_one}
use Rattle.play_runs.specs.Worked.{put, get, found, put_a, get_a, put_two, put_k, copy_mon, all, at_7, at_8, logged, replica, log_after, owed_after, labels_after, gaps_after, owed, owed_past}

-- what a get of a key is answered, where the map has that
answer : Map → List ℕ → Option (List ℕ) → List ℕ
answer m key o = reply_bytes (took (Get key) (tells (hash true m) (option_map (λ value. reply.Value value) o)) (hash true m) None).reply ++ []

-- what a connection is owed

pub nothing : owed (Open Pipe ∷ Event [] false (Opened 0) [] ∷ Event [] false (Ended 0) [] ∷ []) ≡ [] ∷ []
unfolding apply round_one piece_at request_at fields_at spelling records_in records_from
nothing = refl

pub get_alone : owed (Open Pipe ∷ Event [] false (Opened 0) [] ∷ Event [] false (Read 0 9) get ∷ []) ≡ (1 ∷ []) ∷ []
unfolding apply round_one piece_at request_at fields_at spelling records_in records_from answer
get_alone = ap (λ (o : Option (List ℕ)). answer empty (codes "one") o ∷ []) (get-empty (slice_cmp nat_cmp) (codes "one"))

pub put_first : owed (Open Pipe ∷ Event [] false (Opened 0) [] ∷ Event [] false (Read 0 27) (put ++ get) ∷ []) ≡ (0 ∷ []) ∷ []
unfolding apply round_one piece_at request_at fields_at spelling records_in records_from
put_first = refl

pub put_and_get : owed (Open Pipe ∷ Event [] false (Opened 0) [] ∷ Event [] false (Read 0 27) (put ++ get) ∷ Send 0 (0 ∷ []) (Took 1) ∷ Event (0 ∷ []) true Quiet [] ∷ []) ≡ (0 ∷ found) ∷ []
unfolding apply round_one piece_at request_at fields_at spelling records_in records_from answer
put_and_get = ap (λ (o : Option (List ℕ)). (0 ∷ answer (insert empty (codes "one") (codes "first")) (codes "one") o) ∷ []) (get-insert nat_list_cmp_total empty (codes "one") (codes "first") (codes "one"))

pub cut_short : owed (Open Pipe ∷ Event [] false (Opened 0) [] ∷ Event [] false (Read 0 30) (put ++ (0xC8 ∷ 0x10 ∷ 0 ∷ 0 ∷ 0 ∷ 1 ∷ 0 ∷ 0 ∷ 0 ∷ 5 ∷ codes "xab")) ∷ Send 0 (0 ∷ []) (Took 1) ∷ Event [] false (Ended 0) [] ∷ []) ≡ (0 ∷ []) ∷ []
unfolding apply round_one piece_at request_at fields_at spelling records_in records_from
cut_short = refl

-- what two connections are owed: one breaks off and the other goes on, and a put of the first stands before a get of the second

pub broken_off : owed_past (Open Pipe ∷ Event [] false (Opened 0) [] ∷ Event [] false (Opened 1) [] ∷ Event [] false (Read 0 20) (put ++ (0xC8 ∷ 0x99 ∷ [])) ∷ Send 0 (0 ∷ []) (Took 1) ∷ Close 0 ∷ Event [] false (Read 1 9) get ∷ []) ≡ (0 ∷ []) ∷ []
unfolding apply round_one piece_at request_at fields_at spelling records_in records_from
broken_off = refl

pub goes_on : owed (Open Pipe ∷ Event [] false (Opened 0) [] ∷ Event [] false (Opened 1) [] ∷ Event [] false (Read 0 20) (put ++ (0xC8 ∷ 0x99 ∷ [])) ∷ Send 0 (0 ∷ []) (Took 1) ∷ Close 0 ∷ Event [] false (Read 1 9) get ∷ []) ≡ found ∷ []
unfolding apply round_one piece_at request_at fields_at spelling records_in records_from answer
goes_on = ap (λ (o : Option (List ℕ)). answer (insert empty (codes "one") (codes "first")) (codes "one") o ∷ []) (get-insert nat_list_cmp_total empty (codes "one") (codes "first") (codes "one"))

pub in_rounds : owed (Open Pipe ∷ Event [] false (Opened 0) [] ∷ Event [] false (Opened 1) [] ∷ Event [] false (Read 1 19) (put_a ++ get_a) ∷ Send 1 (0 ∷ []) (Took 1) ∷ Event (1 ∷ []) true (Read 0 12) put_two ∷ []) ≡ (0 ∷ []) ∷ (0 ∷ 0 ∷ 0 ∷ 0 ∷ 0 ∷ 1 ∷ codes "2") ∷ []
unfolding apply round_one piece_at request_at fields_at spelling records_in records_from answer
in_rounds =
    let m = insert (insert empty (codes "a") (codes "1")) (codes "a") (codes "2") in
    ap (λ (o : Option (List ℕ)). (0 ∷ []) ∷ (0 ∷ answer m (codes "a") o) ∷ []) (get-insert nat_list_cmp_total (insert empty (codes "a") (codes "1")) (codes "a") (codes "2") (codes "a"))

-- ---- an update log, a copy and a link

pub recorded : log_after logged (Open Pipe ∷ Event [] false (Opened 0) [] ∷ Event [] false (Read 0 24) (put_k ++ put_k) ∷ Send 0 (0 ∷ []) (Took 1) ∷ Event (0 ∷ []) true Quiet [] ∷ []) ≡ at_7 ++ at_8
unfolding apply round_one piece_at request_at fields_at spelling records_in records_from record_bytes
recorded = refl

pub fed_all : owed_after logged (Open Pipe ∷ Event [] false (Opened 0) [] ∷ Event [] false (Read 0 12) put_k ∷ Send 0 (0 ∷ []) (Took 1) ∷ Event [] false (Read 0 14) all ∷ []) ≡ (0 ∷ 0 ∷ 0 ∷ 0 ∷ 3 ∷ at_7) ∷ []
unfolding apply round_one piece_at request_at fields_at spelling records_in records_from record_bytes
fed_all = refl

pub fed_later : owed_after logged (Open Pipe ∷ Event [] false (Opened 0) [] ∷ Event [] false (Opened 1) [] ∷ Event [] false (Read 0 14) all ∷ Event [] false (Read 1 12) put_k ∷ []) ≡ (0 ∷ 0 ∷ 0 ∷ 3 ∷ at_7) ∷ (0 ∷ []) ∷ []
unfolding apply round_one piece_at request_at fields_at spelling records_in records_from record_bytes
fed_later = refl

pub copied : labels_after logged (Open Pipe ∷ Event [] false (Opened 0) [] ∷ Event [] false (Read 0 9) copy_mon ∷ []) ≡ codes "mon" ∷ []
unfolding apply round_one piece_at request_at fields_at spelling records_in records_from
copied = refl

-- the replica takes a record of its master
pub taken : log_after replica (Open Pipe ∷ Dial (codes "m") 1978 (Conn 1) ∷ Event (1 ∷ []) true Quiet [] ∷ Send 1 all (Took 14) ∷ Event [] false (Read 1 41) (0 ∷ 0 ∷ 0 ∷ 3 ∷ at_7) ∷ []) ≡ at_7
unfolding apply round_one look_at stepped piece_at request_at fields_at spelling records_in records_from record_bytes record_at head_at update_in
taken = refl

-- one that follows another than the last one held shows a gap
pub gap_met : gaps_after replica (Open Pipe ∷ Dial (codes "m") 1978 (Conn 1) ∷ Event (1 ∷ []) true Quiet [] ∷ Send 1 all (Took 14) ∷ Event [] false (Read 1 41) (0 ∷ 0 ∷ 0 ∷ 3 ∷ at_8) ∷ []) ≡ (0, 7) ∷ []
unfolding apply round_one look_at stepped piece_at request_at fields_at spelling records_in records_from record_bytes record_at head_at update_in
gap_met = refl

-- what it asks for
pub asked_for : owed_after replica (Open Pipe ∷ Dial (codes "m") 1978 (Conn 1) ∷ []) ≡ all ∷ []
unfolding spelling records_in records_from
asked_for = refl
