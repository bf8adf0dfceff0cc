-- What replies hold.
use Rattle.std.proofs.Common.{◌≡◌, ◌≤◌, ◌+◌, ◌/◌, ◌%◌, ℕ, zero, suc, Bool, true, false, cond, List, [], ◌∷◌, ◌++◌, length, take, drop, refl, sym, ap, subst, ◌∙◌, append_assoc, arith, length-append}
use Rattle.std.specs.Prelude.{◌==◌, ℤ, Option, Some, None, option_map, unwrap_or, codes, nat_lt, ◌%◌, ◌&&◌, option_and_then}
use Rattle.std.specs.List.{list_any}
use Rattle.std.specs.Int.{w32, to_be_bytes}
use Rattle.std.specs.Fmt.{decimal, digits, digits_onto, digit_glyph}
use Rattle.std.specs.List.{position_or_len}
use Rattle.std.proofs.lemmas.List.{drop_at}
use Rattle.std.proofs.lemmas.Bool.{leb-true}
use Rattle.std.proofs.lemmas.Bool.Decides.{nat_tests}
use Rattle.tc_base.specs.declared.kind.Kind.{Kind}
use Rattle.tc_base.specs.declared.kind.Kind.TheVariants as kind
use Rattle.tc_base.specs.declared.request.Request.{Request}
use Rattle.tc_base.specs.declared.request.Request.TheVariants.{Get, FwmKeys, Misc, Stat}
use Rattle.tc_base.specs.declared.request.Reply.{Reply}
use Rattle.tc_base.specs.declared.request.Reply.TheVariants as reply
use Rattle.ty_wire.specs.Form.{items_bytes}
use Rattle.ty_wire.specs.Spelling.{reply_bytes, size}
use Rattle.tc_model.specs.Contents.{Contents, hash, tree, fixed, table, kind_of, Walk, is_table}
use Rattle.tc_model.specs.Stores.{count, held, size_of, value_of}
use Rattle.tc_model.specs.Stats.{kind_text, line, stat_text}
use Rattle.tc_model.specs.Apply.{apply, at_most, fits, keys_from, refused, tells, told, took}
use Rattle.tc_model.specs.Meaning.{done as outcome}
use Rattle.tc_model.specs.Misc.{misc_of, updates_call}
use Rattle.tc_base.specs.Texts.{is_text}
use Rattle.tc_base.specs.declared.seq.Pair.{Pair}
use Rattle.tk_mgr.specs.Tasks.{answered, condition_args, elements, find_request, keys_found, keys_listed, limit_arg, maximum_of, search_args, shown, sort_args, told_line, told_of}
use Rattle.tk_mgr.specs.declared.task.Wanted.{Wanted}
use Rattle.tk_mgr.specs.Asking.{IsIdle, IsTold}
use Rattle.tk_mgr.specs.Showing.{AreCounts, HasKeys, IsValue, is_break, is_table_kind, shown_as}

-- ---- steps that succeeded

told_reply : (r : Request) (a : Reply) (after : Contents) (walk : Walk) (c : Contents) (w : Walk) → (told r a after walk c w).ok ≡ true → ((told r a after walk c w).reply ≡ a) × (fits a ≡ true)
told_reply r a after walk c w = go (fits a) refl
  where
    go : (b : Bool) → fits a ≡ b → (cond b (record { contents = after; walk = walk; reply = a; ok = true }) (refused r c w)).ok ≡ true
        → ((cond b (record { contents = after; walk = walk; reply = a; ok = true }) (refused r c w)).reply ≡ a) × (fits a ≡ true)
    go true is e = (refl, is)
    go false is e = absurd cc

get_reply : (key : List ℕ) (c : Contents) → (apply false (Get key) c None).ok ≡ true → (apply false (Get key) c None).reply ≡ reply.Value (value_of c key)
unfolding apply
get_reply key c = go (held c key)
  where
    go : (o : Option (List ℕ)) → (took (Get key) (tells c (option_map (λ value. reply.Value value) o)) c None).ok ≡ true → (took (Get key) (tells c (option_map (λ value. reply.Value value) o)) c None).reply ≡ reply.Value (unwrap_or o [])
    go None e = absurd cc
    go (Some v) e = (told_reply (Get key) (reply.Value v) c None c None e).0

keys_reply : (maximum : ℤ) (c : Contents) → (apply false (FwmKeys [] maximum) c None).ok ≡ true → ((apply false (FwmKeys [] maximum) c None).reply ≡ reply.List (at_most maximum (keys_from c []))) × (fits (reply.List (at_most maximum (keys_from c []))) ≡ true)
unfolding apply
keys_reply maximum c e = told_reply (FwmKeys [] maximum) (reply.List (at_most maximum (keys_from c []))) c None c None e

-- a reply is a list that fits
abbrev IsListed : Reply → Type 0
IsListed answer = (answer ≡ reply.List (elements answer)) × (fits (reply.List (elements answer)) ≡ true)

-- so is that to a call that succeeded
took_list : (r : Request) (c : Contents) (b : Bool) (o : Option (Contents × List (List ℕ))) → (took r (cond b None (option_map (λ x. (x.0, reply.List x.1)) o)) c None).ok ≡ true → IsListed (took r (cond b None (option_map (λ x. (x.0, reply.List x.1)) o)) c None).reply
took_list r c true o e = absurd cc
took_list r c false None e = absurd cc
took_list r c false (Some x) e =
    let p = told_reply r (reply.List x.1) x.0 None c None e in
    let same : x.1 ≡ elements (told r (reply.List x.1) x.0 None c None).reply = sym (ap elements p.0) in
    (p.0 ∙ ap (λ (items : List (List ℕ)). reply.List items) same, subst (λ (items : List (List ℕ)). fits (reply.List items) ≡ true) same p.1)

call_reply : (name : List ℕ) (options : ℕ) (args : List (List ℕ)) (c : Contents) → (apply false (Misc name options args) c None).ok ≡ true → IsListed (apply false (Misc name options args) c None).reply
unfolding apply
call_reply name options args c e = took_list (Misc name options args) c (options % 2 == 1 && updates_call name args) (option_and_then (λ m. outcome m c) (misc_of name args (kind_of c))) e

stat_reply : (c : Contents) → (apply false Stat c None).ok ≡ true → (apply false Stat c None).reply ≡ reply.Value (stat_text c)
unfolding apply
stat_reply c e = (told_reply Stat (reply.Value (stat_text c)) c None c None e).0

-- ---- what stands behind their first five bytes

value_behind : (v : List ℕ) → drop 5 (reply_bytes (reply.Value v)) ≡ v
value_behind v = refl

items_behind : (items : List (List ℕ)) → drop 5 (reply_bytes (reply.List items)) ≡ items_bytes items
items_behind items = refl

pub value_told : (key : List ℕ) (c : Contents) (bytes : List ℕ) (done : Bool) → done ≡ true → IsTold (Get key) done c bytes → drop 5 bytes ≡ value_of c key
value_told key c bytes done is h = ap (drop 5) (h.bytes ∙ ap reply_bytes (get_reply key c (sym h.ok ∙ is))) ∙ value_behind (value_of c key)

-- the keys that a list in a reply has
listed_behind : (keys : List (List ℕ)) (bytes : List ℕ) → bytes ≡ reply_bytes (reply.List keys) → fits (reply.List keys) ≡ true → HasKeys (drop 5 bytes) keys
listed_behind keys bytes all fit =
    let items : drop 5 bytes ≡ items_bytes keys = ap (drop 5) all ∙ items_behind keys in
    let few : length (reply_bytes (reply.List keys)) ≤ 67108864 = leb-true _ _ fit in
    record { bytes = items; short = omega (arith, few, ap length items, length-append (to_be_bytes w32 (length keys)) (items_bytes keys)) }

pub keys_told : (maximum : Option ℕ) (c : Contents) (bytes : List ℕ) (done : Bool) → done ≡ true → IsTold (FwmKeys [] (maximum_of maximum)) done c bytes → HasKeys (drop 5 bytes) (keys_listed maximum c)
keys_told maximum c bytes done is h = let r = keys_reply (maximum_of maximum) c (sym h.ok ∙ is) in listed_behind (keys_listed maximum c) bytes (h.bytes ∙ ap reply_bytes r.0) r.1

pub keys_asked : (maximum : Option ℕ) (c : Contents) (prefix : List ℕ) (most : ℤ) (bytes items : List ℕ) (done : Bool) → done ≡ true → prefix ≡ [] → most ≡ maximum_of maximum → IsTold (FwmKeys prefix most) done c bytes → items ≡ drop 5 bytes
    → HasKeys items (keys_listed maximum c) × (true ≡ (apply false (FwmKeys [] (maximum_of maximum)) c None).ok)
keys_asked maximum c prefix most bytes items done is none limit h at =
    let told : IsTold (FwmKeys [] (maximum_of maximum)) done c bytes = subst (λ (m : ℤ). IsTold (FwmKeys [] m) done c bytes) limit (subst (λ (p : List ℕ). IsTold (FwmKeys p most) done c bytes) none h) in
    (subst (λ (l : List ℕ). HasKeys l (keys_listed maximum c)) (sym at) (keys_told maximum c bytes done is told), sym is ∙ told.ok)

-- ---- the keys that a search finds

found_told : (w : Wanted) (c : Contents) (bytes : List ℕ) (done : Bool) → done ≡ true → IsTold (find_request w) done c bytes → HasKeys (drop 5 bytes) (keys_found w c)
found_told w c bytes done is h = let r = call_reply (codes "search") 0 (search_args w) c (sym h.ok ∙ is) in listed_behind (keys_found w c) bytes (h.bytes ∙ ap reply_bytes r.0) r.1

pub keys_wanted : (w : Wanted) (c : Contents) (r : Request) (bytes items : List ℕ) (done : Bool) → done ≡ true → r ≡ find_request w → IsTold r done c bytes → items ≡ drop 5 bytes → HasKeys items (keys_found w c) × (true ≡ answered (Some (find_request w)) c)
keys_wanted w c r bytes items done is same h at =
    let asked : IsTold (find_request w) done c bytes = subst (λ (q : Request). IsTold q done c bytes) same h in
    (subst (λ (l : List ℕ). HasKeys l (keys_found w c)) (sym at) (found_told w c bytes done is asked), sym is ∙ asked.ok)

-- none of its arguments is `out`
abbrev outs : List (List ℕ) → Bool
outs args = list_any (is_text (codes "out")) args

conditions_none : (ws more : List (List ℕ)) → outs more ≡ false → outs (condition_args ws ++ more) ≡ false
conditions_none [] more e = e
conditions_none (a ∷ []) more e = e
conditions_none (a ∷ b ∷ []) more e = e
conditions_none (a ∷ b ∷ d ∷ ws) more e = conditions_none ws more e

sort_none : (s : Option Pair) (more : List (List ℕ)) → outs more ≡ false → outs (sort_args s ++ more) ≡ false
sort_none None more e = e
sort_none (Some p) more e = e

args_none : (w : Wanted) → outs (search_args w) ≡ false
args_none w = conditions_none w.conditions (sort_args w.sort ++ limit_arg w.maximum w.skip ∷ []) (sort_none w.sort (limit_arg w.maximum w.skip ∷ []) refl)

pub find_idle : (w : Wanted) → IsIdle (find_request w)
find_idle w = record { updates_none = args_none w; packs_none = refl }

-- ---- values as they are printed

either_none : (b : Bool) (x y : Kind) → is_table_kind x ≡ false → is_table_kind y ≡ false → is_table_kind (cond b x y) ≡ false
either_none true x y e f = e
either_none false x y e f = f

table_is : (c : Contents) → is_table_kind (kind_of c) ≡ is_table c
table_is (hash memory m) = either_none memory kind.MemHash kind.Hash refl refl
table_is (tree memory decimal ps) = either_none memory kind.MemTree kind.Tree refl refl
table_is (fixed width most ids) = refl
table_is (table rows indexes) = refl

pub value_shown : (key : List ℕ) (c : Contents) (bytes old new : List ℕ) (k : Kind) (table done : Bool) → done ≡ true → k ≡ kind_of c → table ≡ is_table_kind k → IsTold (Get key) done c bytes → new ≡ old ++ shown_as table (drop 5 bytes) → IsValue key true c old new
value_shown key c bytes old new k rows done is kind_is table_of h added = record {
  ok = sym is ∙ h.ok;
  added = λ e. added ∙ ap (λ (b : Bool). old ++ shown_as b (drop 5 bytes)) (table_of ∙ ap is_table_kind kind_is ∙ table_is c) ∙ ap (λ (v : List ℕ). old ++ shown c v) (value_told key c bytes done is h);
}

-- ---- numbers in the reply to stat

abbrev NoBreak : List ℕ → Type 0
NoBreak [] = Unit {0}
NoBreak (x ∷ xs) = (is_break x ≡ false) × NoBreak xs

digit_none : (d : ℕ) → is_break (digit_glyph false d) ≡ false
digit_none d = go (nat_lt d 10)
  where
    go : (b : Bool) → is_break (cond b (48 + d) (cond false (55 + d) (87 + d))) ≡ false
    go true = grind (arith, nat_tests)
    go false = grind (arith, nat_tests)

onto_none : (k n : ℕ) (acc : List ℕ) → NoBreak acc → NoBreak (digits_onto k 10 false n acc)
onto_none zero n acc h = h
onto_none (suc k) n acc h = go (n / 10 == 0) (onto_none k (n / 10) (digit_glyph false (n % 10) ∷ acc) (digit_none (n % 10), h))
  where
    go : (b : Bool) → NoBreak (digits_onto k 10 false (n / 10) (digit_glyph false (n % 10) ∷ acc)) → NoBreak (cond b (digit_glyph false (n % 10) ∷ acc) (digits_onto k 10 false (n / 10) (digit_glyph false (n % 10) ∷ acc)))
    go true more = (digit_none (n % 10), h)
    go false more = more

decimal_none : (n : ℕ) → NoBreak (decimal n)
unfolding digits
decimal_none n = onto_none 64 n [] tt

-- the bytes before the first newline
cut_first : (xs more : List ℕ) → NoBreak xs → take (position_or_len is_break (xs ++ 10 ∷ more)) (xs ++ 10 ∷ more) ≡ xs
cut_first [] more h = refl
cut_first (x ∷ xs) more h =
    let n : ℕ = position_or_len is_break (xs ++ 10 ∷ more) in
    let e : 1 + n ≡ suc n = omega arith in
    rw (h.0, e) (ap (λ (l : List ℕ). x ∷ l) (cut_first xs more h.1))

abbrev before_numbers : List ℕ → List ℕ → List ℕ
before_numbers sizes kt = 0 ∷ (sizes ++ (codes "type" ++ (9 ∷ (kt ++ (10 ∷ (codes "rnum" ++ 9 ∷ []))))))

abbrev numbers_of : List ℕ → List ℕ → List ℕ
numbers_of d e = d ++ 10 ∷ (codes "size" ++ (9 ∷ (e ++ 10 ∷ [])))

numbers_parted : (sizes kt d e : List ℕ) → 0 ∷ (sizes ++ (line (codes "type") kt ++ (line (codes "rnum") d ++ line (codes "size") e))) ≡ before_numbers sizes kt ++ numbers_of d e
numbers_parted sizes kt d e = simp append_assoc

numbers_long : (sizes kt : List ℕ) → length sizes ≡ 4 → length (before_numbers sizes kt) ≡ 16 + length kt
numbers_long sizes kt four = omega (arith, four, length-append sizes (codes "type" ++ (9 ∷ (kt ++ (10 ∷ (codes "rnum" ++ 9 ∷ []))))), length-append kt (10 ∷ (codes "rnum" ++ 9 ∷ [])))

numbers_behind : (sizes kt d e : List ℕ) → length sizes ≡ 4 → drop (16 + length kt) (0 ∷ (sizes ++ (line (codes "type") kt ++ (line (codes "rnum") d ++ line (codes "size") e)))) ≡ numbers_of d e
numbers_behind sizes kt d e four = ap (drop (16 + length kt)) (numbers_parted sizes kt d e) ∙ drop_at (before_numbers sizes kt) (numbers_of d e) (16 + length kt) (numbers_long sizes kt four)

size_parted : (d e : List ℕ) → numbers_of d e ≡ (d ++ (10 ∷ (codes "size" ++ 9 ∷ []))) ++ (e ++ 10 ∷ [])
size_parted d e = simp append_assoc

size_behind : (d e : List ℕ) → drop (length d + 6) (numbers_of d e) ≡ e ++ 10 ∷ []
size_behind d e = ap (drop (length d + 6)) (size_parted d e) ∙ drop_at (d ++ (10 ∷ (codes "size" ++ 9 ∷ []))) (e ++ 10 ∷ []) (length d + 6) (omega (arith, length-append d (10 ∷ (codes "size" ++ 9 ∷ []))))

abbrev first_of : List ℕ → List ℕ
first_of bytes = take (position_or_len is_break bytes) bytes

pub counts_told : (k : Kind) (c : Contents) (bytes numbers records behind second : List ℕ) (at : ℕ) → k ≡ kind_of c → IsTold Stat true c bytes → at ≡ 16 + length (kind_text k) → numbers ≡ drop at bytes → records ≡ take (position_or_len is_break numbers) numbers
    → behind ≡ drop (length records + 6) numbers → second ≡ take (position_or_len is_break behind) behind → AreCounts c records second
counts_told k c bytes numbers records behind second at kind_is h place n r b s =
    let d : List ℕ = decimal (count c) in
    let e : List ℕ = decimal (size_of c) in
    let kt : List ℕ = kind_text (kind_of c) in
    let all : bytes ≡ 0 ∷ (size (stat_text c) ++ (line (codes "type") kt ++ (line (codes "rnum") d ++ line (codes "size") e))) = h.bytes ∙ ap reply_bytes (stat_reply c (sym h.ok)) in
    let at_is : at ≡ 16 + length kt = place ∙ ap (λ (x : Kind). 16 + length (kind_text x)) kind_is in
    let numbers_is : numbers ≡ numbers_of d e = n ∙ ap (λ (i : ℕ). drop i bytes) at_is ∙ ap (drop (16 + length kt)) all ∙ numbers_behind (size (stat_text c)) kt d e refl in
    let records_is : records ≡ d = r ∙ ap first_of numbers_is ∙ cut_first d (codes "size" ++ (9 ∷ (e ++ 10 ∷ []))) (decimal_none (count c)) in
    let behind_is : behind ≡ e ++ 10 ∷ [] = b ∙ ap (λ (l : List ℕ). drop (length l + 6) numbers) records_is ∙ ap (drop (length d + 6)) numbers_is ∙ size_behind d e in
    record { records = records_is; size = s ∙ ap first_of behind_is ∙ cut_first e [] (decimal_none (size_of c)) }

-- ---- inspections

pub told_added : (c : Contents) (k : Kind) (kt records second old a b new : List ℕ) → k ≡ kind_of c → kt ≡ kind_text k → AreCounts c records second → a ≡ old ++ told_line (codes "type") kt → b ≡ a ++ told_line (codes "record number") records
    → new ≡ b ++ told_line (codes "size") second → new ≡ old ++ told_of c
told_added c k kt records second old a b new kind_is text n first then last =
    let x : List ℕ = told_line (codes "type") (kind_text (kind_of c)) in
    let y : List ℕ = told_line (codes "record number") (decimal (count c)) in
    let z : List ℕ = told_line (codes "size") (decimal (size_of c)) in
    last ∙ ap (λ (l : List ℕ). b ++ told_line (codes "size") l) n.size
    ∙ ap (λ (l : List ℕ). l ++ z) (then ∙ ap (λ (l : List ℕ). a ++ told_line (codes "record number") l) n.records ∙ ap (λ (l : List ℕ). l ++ y) (first ∙ ap (λ (l : List ℕ). old ++ told_line (codes "type") l) (text ∙ ap kind_text kind_is)))
    ∙ append_assoc (old ++ x) y z ∙ append_assoc old x (y ++ z)
