-- Replies that are made of rows.
use Rattle.std.proofs.Common.{◌≡◌, ◌∙◌, ◌+◌, ◌<◌, ◌≤◌, ℕ, zero, suc, Bool, true, false, cond, List, [], ◌∷◌, ◌++◌, length, take, drop, Option, Some, None, option_map, refl, sym, ap, subst, append_assoc, arith, length-append}
use Rattle.std.specs.Prelude.{◌&&◌, Result, map, not}
use Rattle.std.specs.Int.{w32, to_be_bytes}
use Rattle.std.proofs.lemmas.Bool.{le-leb, lt-leb}
use Rattle.std.proofs.lemmas.List.{append-nil, length-map}
use Rattle.std.proofs.Math.Seq.{drop-append-add, take-append_seam}
use Rattle.tc_base.specs.Files.{wrote}
use Rattle.tc_base.specs.declared.request.Reply.{Reply}
use Rattle.tc_base.specs.declared.request.Reply.TheVariants as reply
use Rattle.tc_base.specs.declared.seq.Pair.{Pair}
use Rattle.tc_space.specs.declared.errors.RecErr.{RecErr}
use Rattle.ty_wire.specs.Form.{items_bytes}
use Rattle.ty_wire.specs.Prefixes.{IsPrefix}
use Rattle.ty_wire.specs.Spelling.{pairs_bytes, reply_bytes, size}
use Rattle.tc_model.specs.Contents.{Contents}
use Rattle.tc_model.specs.Apply.{fits}
use Rattle.tc_engine.specs.Rows.{Adds, AreItems, Extends, Gathered, IsItem, bytes_of, is_long, item_row, joined, pair_row, pair_rows}
use Rattle.tc_engine.specs.declared.rows.Rows.{Rows}
use Rattle.ty_answers.specs.Answers.{Answered, fail_reply}
use Rattle.ty_answers.specs.Lists.{Gives, Opens, counted, list_bytes, no_rows, room}
use Rattle.ty_answers.specs.declared.voice.Voice.{Voice}

-- ---- rows are the items, or the pairs, of a reply

pub items_joined : (xs : List (List ℕ)) → joined (map item_row xs) ≡ items_bytes xs
items_joined [] = refl
items_joined (x ∷ xs) = append_assoc (size x) x (joined (map item_row xs)) ∙ ap (λ (t : List ℕ). size x ++ (x ++ t)) (items_joined xs)

pair_in : (key value rest : List ℕ) → pair_row key value ++ rest ≡ size key ++ (size value ++ (key ++ (value ++ rest)))
pair_in key value rest =
    append_assoc (size key) (size value ++ (key ++ value)) rest
    ∙ ap (λ (t : List ℕ). size key ++ t) (append_assoc (size value) (key ++ value) rest ∙ ap (λ (t : List ℕ). size value ++ t) (append_assoc key value rest))

pub pairs_joined : (ps : List Pair) → joined (pair_rows ps) ≡ pairs_bytes ps
pairs_joined [] = refl
pairs_joined (p ∷ ps) = pair_in p.key p.value (joined (pair_rows ps)) ∙ ap (λ (t : List ℕ). size p.key ++ (size p.value ++ (p.key ++ (p.value ++ t)))) (pairs_joined ps)

pub list_of_items : (xs : List (List ℕ)) → list_bytes (map item_row xs) ≡ reply_bytes (reply.List xs)
list_of_items xs = ap (λ (n : ℕ). 0 ∷ (to_be_bytes w32 n ++ joined (map item_row xs))) (length-map xs item_row) ∙ ap (λ (t : List ℕ). 0 ∷ (to_be_bytes w32 (length xs) ++ t)) (items_joined xs)

pub list_of_pairs : (ps : List Pair) → list_bytes (pair_rows ps) ≡ reply_bytes (reply.Pairs ps)
list_of_pairs ps = ap (λ (n : ℕ). 0 ∷ (to_be_bytes w32 n ++ joined (pair_rows ps))) (length-map ps (λ p. pair_row p.key p.value)) ∙ ap (λ (t : List ℕ). 0 ∷ (to_be_bytes w32 (length ps) ++ t)) (pairs_joined ps)

-- ---- which replies fit

fits_short : (answer : Reply) (bytes : List ℕ) → bytes ≡ reply_bytes answer → length bytes ≤ 67108864 → fits answer ≡ true
fits_short answer bytes is le = le-leb _ _ (subst (λ (t : List ℕ). length t ≤ 67108864) is le)

fits_long : (answer : Reply) (bytes : List ℕ) → bytes ≡ reply_bytes answer → 67108864 < length bytes → fits answer ≡ false
fits_long answer bytes is lt = lt-leb _ _ (subst (λ (t : List ℕ). 67108864 < length t) is lt)

list_length : (rows : List (List ℕ)) → length (list_bytes rows) ≡ 5 + length (joined rows)
list_length rows = omega (arith, length-append (to_be_bytes w32 (length rows)) (joined rows))

-- ---- what an answer is where rows stand, or are too long

-- where something was found, and it isn't too long, an answer stands behind the old bytes; where nothing was found there is none
pub record IsTold (answer : Option Reply) (found long : Bool) (old given : List ℕ) : Type 0 where
  pub there : found ≡ true → (reply : Reply) × (answer ≡ Some reply)
  pub short : found ≡ true → (reply : Reply) → answer ≡ Some reply → long ≡ false → (fits reply ≡ true) × (given ≡ old ++ reply_bytes reply)
  pub over : found ≡ true → (reply : Reply) → answer ≡ Some reply → long ≡ true → fits reply ≡ false
  pub none : found ≡ false → answer ≡ None

same_cond : (c : Contents) (b : Bool) → c ≡ cond b c c
same_cond c true = refl
same_cond c false = refl

-- an answer, or a refusal where it is too long
pub answered_some : (answer refusal : Reply) (c : Contents) (o : Option Reply) (done : Bool) (old new : List ℕ) → o ≡ Some answer → done ≡ fits answer → new ≡ old ++ reply_bytes (cond done answer refusal) → Answered (option_map (λ answer. (c, answer)) o) refusal done c c old new
answered_some answer refusal c o done old new is ok bytes =
    subst (λ (x : Option Reply). Answered (option_map (λ answer. (c, answer)) x) refusal done c c old new) (sym is) (record {
      ok = ok;
      contents = same_cond c (fits answer);
      bytes = bytes ∙ ap (λ (b : Bool). old ++ reply_bytes (cond b answer refusal)) ok;
    })

pub answered_none : (refusal : Reply) (c : Contents) (o : Option Reply) (done : Bool) (old new : List ℕ) → o ≡ None → done ≡ false → new ≡ old ++ reply_bytes refusal → Answered (option_map (λ answer. (c, answer)) o) refusal done c c old new
answered_none refusal c o done old new is ok bytes = subst (λ (x : Option Reply). Answered (option_map (λ answer. (c, answer)) x) refusal done c c old new) (sym is) (record { ok = ok; contents = refl; bytes = bytes })

-- what was given back is the answer
given_answered : (o : Option Reply) (refusal : Reply) (c : Contents) (found long whole : Bool) (old front given new : List ℕ) → front ≡ old → whole ≡ (found && not long) → new ≡ cond whole given (front ++ reply_bytes refusal) → IsTold o found long old given
    → Answered (option_map (λ answer. (c, answer)) o) refusal whole c c old new
given_answered o refusal c false long whole old front given new first is bytes told =
    answered_none refusal c o whole old new (told.none refl) is (bytes ∙ ap (λ (b : Bool). cond b given (front ++ reply_bytes refusal)) is ∙ ap (λ (t : List ℕ). t ++ reply_bytes refusal) first)
given_answered o refusal c true false whole old front given new first is bytes told =
    let there = told.there refl in
    let short = told.short refl there.0 there.1 refl in
    answered_some there.0 refusal c o whole old new there.1 (is ∙ sym short.0) (bytes ∙ ap (λ (b : Bool). cond b given (front ++ reply_bytes refusal)) is ∙ short.1 ∙ ap (λ (b : Bool). old ++ reply_bytes (cond b there.0 refusal)) (sym is))
given_answered o refusal c true true whole old front given new first is bytes told =
    let there = told.there refl in
    answered_some there.0 refusal c o whole old new there.1 (is ∙ sym (told.over refl there.0 there.1 refl))
    (bytes ∙ ap (λ (b : Bool). cond b given (front ++ reply_bytes refusal)) is ∙ ap (λ (t : List ℕ). t ++ reply_bytes refusal) first ∙ ap (λ (b : Bool). old ++ reply_bytes (cond b there.0 refusal)) (sym is))

take_front : (xs ys : List ℕ) → take (length xs) (xs ++ ys) ≡ xs
take_front [] ys = refl
take_front (x ∷ xs) ys = ap (λ (t : List ℕ). x ∷ t) (take_front xs ys)

-- the old bytes still stand in front of rows that were opened behind them
pub in_front : (r0 r1 : Rows) (old zeros : List ℕ) (most : ℕ) → Opens r0 (old ++ zeros) most → Extends r0 r1 → IsPrefix (old ++ zeros) (bytes_of r1)
in_front r0 r1 old zeros most opens ext =
    let first = opens.begins.behind in
    (first.0 ++ ext.0, ext.1 ∙ (ap (λ (t : List ℕ). t ++ ext.0) first.1 ∙ append_assoc (old ++ zeros) first.0 ext.0))

pub front_of : (r0 r1 : Rows) (old zeros : List ℕ) (most : ℕ) → Opens r0 (old ++ zeros) most → Extends r0 r1 → IsPrefix old (bytes_of r1)
front_of r0 r1 old zeros most opens ext =
    let h = in_front r0 r1 old zeros most opens ext in
    (zeros ++ h.0, h.1 ∙ append_assoc old zeros h.0)

front_is : (bytes old : List ℕ) (begin : ℕ) → begin ≡ length old → IsPrefix old bytes → take begin bytes ≡ old
front_is bytes old begin at front = ap (λ (n : ℕ). take n bytes) at ∙ ap (take (length old)) front.1 ∙ take_front old front.0

pub has_count : (r0 r1 : Rows) (old : List ℕ) (begin most : ℕ) → begin ≡ length old → Opens r0 (old ++ no_rows) most → Extends r0 r1 → begin + 5 ≤ length (bytes_of r1)
has_count r0 r1 old begin most at opens ext =
    let h = in_front r0 r1 old no_rows most opens ext in
    omega (arith, at, ap length h.1, length-append (old ++ no_rows) h.0, length-append old no_rows)

pub answered : (o : Option Reply) (voice : Voice) (c : Contents) (r0 r1 : Rows) (zeros : List ℕ) (most begin : ℕ) (made : Result Bool RecErr) (whole : Bool) (old given new : List ℕ)
    → begin ≡ length old → Opens r0 (old ++ zeros) most → Extends r0 r1 → (gives : Gives made r1 begin voice whole given new) → IsTold o gives.found (is_long r1) old given → Answered (option_map (λ answer. (c, answer)) o) (fail_reply voice) whole c c old new
answered o voice c r0 r1 zeros most begin made whole old given new at opens ext gives told =
    given_answered o (fail_reply voice) c gives.found (is_long r1) whole old (take begin (bytes_of r1)) given new (front_is (bytes_of r1) old begin at (front_of r0 r1 old zeros most opens ext)) gives.whole_is gives.bytes told

-- ---- lists

-- these rows came, and with their count they are the reply; or there is none
pub record IsListed (answer : Option Reply) (found : Bool) (old new : Rows) : Type 0 where
  pub there : found ≡ true → (reply : Reply) × (rows : List (List ℕ)) × (answer ≡ Some reply) × (list_bytes rows ≡ reply_bytes reply) × Adds old new rows
  pub none : found ≡ false → answer ≡ None

count_at : (a x bytes : List ℕ) → length bytes ≡ 4 → wrote (length a) bytes (a ++ (0 ∷ 0 ∷ 0 ∷ 0 ∷ x)) ≡ a ++ (bytes ++ x)
unfolding wrote
count_at a x bytes four =
    let z = a ++ (0 ∷ 0 ∷ 0 ∷ 0 ∷ x) in
    append_assoc (take (length a) z) bytes (drop (length a + length bytes) z)
    ∙ ap (λ (m : ℕ). take (length a) z ++ (bytes ++ drop (length a + m) z)) four
    ∙ ap (λ (t : List ℕ). t ++ (bytes ++ drop (length a + 4) z)) (take-append_seam a (0 ∷ 0 ∷ 0 ∷ 0 ∷ x))
    ∙ ap (λ (t : List ℕ). a ++ (bytes ++ t)) (drop-append-add a (0 ∷ 0 ∷ 0 ∷ 0 ∷ x) 4)

count_in : (old x : List ℕ) (n : ℕ) → wrote (length old + 1) (to_be_bytes w32 n) ((old ++ no_rows) ++ x) ≡ old ++ (0 ∷ (to_be_bytes w32 n ++ x))
count_in old x n =
    ap (λ (k : ℕ). wrote k (to_be_bytes w32 n) ((old ++ no_rows) ++ x)) (sym (length-append old (0 ∷ [])))
    ∙ ap (wrote (length (old ++ 0 ∷ [])) (to_be_bytes w32 n)) (append_assoc old no_rows x ∙ sym (append_assoc old (0 ∷ []) (0 ∷ 0 ∷ 0 ∷ 0 ∷ x)))
    ∙ count_at (old ++ 0 ∷ []) x (to_be_bytes w32 n) refl
    ∙ append_assoc old (0 ∷ []) (to_be_bytes w32 n ++ x)

list_stands : (r : Rows) (old : List ℕ) (begin : ℕ) (rows : List (List ℕ)) → begin ≡ length old → Gathered r (old ++ no_rows) rows → r.long ≡ false → counted r begin ≡ old ++ list_bytes rows
list_stands r old begin rows at g short =
    ap (λ (n : ℕ). wrote (n + 1) (to_be_bytes w32 r.count) r.bytes) at
    ∙ ap (λ (n : ℕ). wrote (length old + 1) (to_be_bytes w32 n) r.bytes) (g.count short)
    ∙ ap (λ (t : List ℕ). wrote (length old + 1) (to_be_bytes w32 (length rows)) t) (g.bytes short)
    ∙ count_in old (joined rows) (length rows)

-- what is listed is told with its count
pub list_told : (o : Option Reply) (r0 r1 : Rows) (old : List ℕ) (begin : ℕ) (found : Bool) → begin ≡ length old → Opens r0 (old ++ no_rows) room → IsListed o found r0 r1 → IsTold o found (is_long r1) old (counted r1 begin)
list_told o r0 r1 old begin found at opens listed = record {
  there = λ f. let l = listed.there f in (l.0, l.2);
  short = λ f reply is short.
      let l = listed.there f in
      let same : l.0 ≡ reply = let k : Some l.0 ≡ Some reply = sym l.2 ∙ is in cc in
      let g = l.4.gathered (old ++ no_rows) [] opens.begins in
      let most : r1.most ≡ room = l.4.most ∙ opens.most_is in
      let bytes : list_bytes l.1 ≡ reply_bytes reply = l.3 ∙ ap reply_bytes same in
      (fits_short reply (list_bytes l.1) bytes (omega (arith, list_length l.1, g.room short, most)), list_stands r1 old begin l.1 at g short ∙ ap (λ (t : List ℕ). old ++ t) bytes);
  over = λ f reply is long.
      let l = listed.there f in
      let same : l.0 ≡ reply = let k : Some l.0 ≡ Some reply = sym l.2 ∙ is in cc in
      let g = l.4.gathered (old ++ no_rows) [] opens.begins in
      let most : r1.most ≡ room = l.4.most ∙ opens.most_is in
      let bytes : list_bytes l.1 ≡ reply_bytes reply = l.3 ∙ ap reply_bytes same in
      fits_long reply (list_bytes l.1) bytes (omega (arith, list_length l.1, g.long long, most));
  none = listed.none;
}

-- ---- one value

value_stands : (r : Rows) (old text : List ℕ) → Gathered r (old ++ 0 ∷ []) (item_row text ∷ []) → r.long ≡ false → r.bytes ≡ old ++ reply_bytes (reply.Value text)
value_stands r old text g short = g.bytes short ∙ append_assoc old (0 ∷ []) (joined (item_row text ∷ [])) ∙ ap (λ (t : List ℕ). old ++ (0 ∷ t)) (append-nil (item_row text))

one_row : (text : List ℕ) → length (joined (item_row text ∷ [])) ≡ 4 + length text
one_row text = ap length (append-nil (item_row text)) ∙ length-append (size text) text

pub value_told : (value : Option (List ℕ)) (r0 r1 : Rows) (old : List ℕ) (found : Bool) → Opens r0 (old ++ 0 ∷ []) 67108863 → IsItem value found r0 r1 → IsTold (option_map (λ v. reply.Value v) value) found (is_long r1) old (bytes_of r1)
value_told value r0 r1 old found opens item = record {
  there = λ f. let l = item.there f in (reply.Value l.0, ap (option_map (λ v. reply.Value v)) l.1);
  short = λ f answer is short.
      let l = item.there f in
      let same : reply.Value l.0 ≡ answer = let k : Some (reply.Value l.0) ≡ Some answer = sym (ap (option_map (λ v. reply.Value v)) l.1) ∙ is in cc in
      let g = l.2.gathered (old ++ 0 ∷ []) [] opens.begins in
      let most : r1.most ≡ 67108863 = l.2.most ∙ opens.most_is in
      let bytes : reply_bytes (reply.Value l.0) ≡ reply_bytes answer = ap reply_bytes same in
      (fits_short answer (reply_bytes (reply.Value l.0)) bytes (omega (arith, one_row l.0, length-append (size l.0) l.0, g.room short, most)), value_stands r1 old l.0 g short ∙ ap (λ (t : List ℕ). old ++ t) bytes);
  over = λ f answer is long.
      let l = item.there f in
      let same : reply.Value l.0 ≡ answer = let k : Some (reply.Value l.0) ≡ Some answer = sym (ap (option_map (λ v. reply.Value v)) l.1) ∙ is in cc in
      let g = l.2.gathered (old ++ 0 ∷ []) [] opens.begins in
      let most : r1.most ≡ 67108863 = l.2.most ∙ opens.most_is in
      fits_long answer (reply_bytes (reply.Value l.0)) (ap reply_bytes same) (omega (arith, one_row l.0, length-append (size l.0) l.0, g.long long, most));
  none = λ f. ap (option_map (λ v. reply.Value v)) (item.none f).0;
}

-- ---- what is listed

pub item_listed : (value : Option (List ℕ)) (r0 r1 : Rows) (found : Bool) → IsItem value found r0 r1 → IsListed (option_map (λ v. reply.List (v ∷ [])) value) found r0 r1
item_listed value r0 r1 found item = record {
  there = λ f. let l = item.there f in (reply.List (l.0 ∷ []), item_row l.0 ∷ [], ap (option_map (λ v. reply.List (v ∷ []))) l.1, list_of_items (l.0 ∷ []), l.2);
  none = λ f. ap (option_map (λ v. reply.List (v ∷ []))) (item.none f).0;
}

pub items_listed : (xs : List (List ℕ)) (r0 r1 : Rows) (found : Bool) → found ≡ true → Adds r0 r1 (map item_row xs) → IsListed (Some (reply.List xs)) found r0 r1
items_listed xs r0 r1 found is adds = record { there = λ f. (reply.List xs, map item_row xs, refl, list_of_items xs, adds); none = λ f. absurd cc }

pub texts_listed : (texts : Option (List (List ℕ))) (r0 r1 : Rows) (found : Bool) → AreItems texts found r0 r1 → IsListed (option_map (λ items. reply.List items) texts) found r0 r1
texts_listed texts r0 r1 found are = record {
  there = λ f. let l = are.there f in (reply.List l.0, map item_row l.0, ap (option_map (λ items. reply.List items)) l.1, list_of_items l.0, l.2);
  none = λ f. ap (option_map (λ items. reply.List items)) (are.none f).0;
}

pub pairs_listed : (ps : List Pair) (r0 r1 : Rows) (found : Bool) → found ≡ true → Adds r0 r1 (pair_rows ps) → IsListed (Some (reply.Pairs ps)) found r0 r1
pairs_listed ps r0 r1 found is adds = record { there = λ f. (reply.Pairs ps, pair_rows ps, refl, list_of_pairs ps, adds); none = λ f. absurd cc }

-- ---- what stands in front stays there

front_of_take : (front rest : List ℕ) (at : ℕ) → length front ≤ at → IsPrefix front (take at (front ++ rest))
front_of_take [] rest at le = (take at rest, refl)
front_of_take (x ∷ front) rest zero le = absurd (omega (arith, le))
front_of_take (x ∷ front) rest (suc n) le = let p = front_of_take front rest n (omega (arith, le)) in (p.0, ap (λ (l : List ℕ). x ∷ l) p.1)

pub front_written : (front old bytes : List ℕ) (at : ℕ) → length front ≤ at → IsPrefix front old → IsPrefix front (wrote at bytes old)
unfolding wrote
front_written front old bytes at le p =
    let q = front_of_take front p.0 at le in
    let rest = drop (at + length bytes) old in
    (q.0 ++ (bytes ++ rest), ap (λ (l : List ℕ). (l ++ bytes) ++ rest) (ap (take at) p.1 ∙ q.1) ∙ (append_assoc (front ++ q.0) bytes rest ∙ append_assoc front q.0 (bytes ++ rest)))
