-- A request at the front stays there whatever comes behind.
use Rattle.std.proofs.Common.{◌≡◌, ℕ, zero, suc, ◌+◌, ◌-◌, ◌*◌, ◌/◌, ◌<◌, ◌≤◌, Bool, true, false, cond, List, [], ◌∷◌, ◌++◌, length, sym, ap, ◌∙◌, arith, length-drop}
use Rattle.std.specs.Prelude.{Ok, Err, min, ◌==◌}
use Rattle.std.proofs.lemmas.List.{drop-append-le}
use Rattle.tc_base.specs.declared.request.Request.{Request}
use Rattle.tc_base.specs.declared.fields.NotWhole.TheVariants.{Bad}
use Rattle.tc_base.specs.Reading.{Front, ◌>>=◌, byte_at, size_at, bytes_at}
use Rattle.tc_base.proofs.Exact.{bind_ok, same_whole}
use Rattle.ty_wire.specs.Form.{Field, text, word, long, Heads, Values}
use Rattle.ty_wire.specs.Reading.{long_at, head_at, heads_then, body_then, values_at, room, items_at, counted_at, Entry, plain, counted, command_of, read_by, entries, pick, fields_at, command_at, request_at}
use Rattle.ty_wire.proofs.Stays.{Stays, size_stays, bytes_stay, rest_is}

-- what is read whole is read so whatever comes behind, and no more is left than there was
pub record IsStable {A : Type 0} (p : List ℕ → Front A) : Type 0 where
  pub more : (bytes behind : List ℕ) (x : A) (rest : List ℕ) → p bytes ≡ Ok (x, rest) → p (bytes ++ behind) ≡ Ok (x, rest ++ behind)
  pub less : (bytes : List ℕ) (x : A) (rest : List ℕ) → p bytes ≡ Ok (x, rest) → length rest ≤ length bytes

stays_stable : {A : Type 0} (p : List ℕ → Front A) (n : A → ℕ) → ((bytes : List ℕ) (x : A) (rest : List ℕ) → p bytes ≡ Ok (x, rest) → Stays p bytes x (n x)) → IsStable p
stays_stable {A} p n stays = record {
  more = λ bytes behind x rest e.
      let s = stays bytes x rest e in
      s.reads behind ∙ ap (λ (l : List ℕ). Ok (x, l)) (drop-append-le (n x) bytes behind s.inside ∙ ap (λ (l : List ℕ). l ++ behind) (sym (rest_is p bytes x (n x) rest s e)));
  less = λ bytes x rest e.
      let s = stays bytes x rest e in
      let is = ap length (rest_is p bytes x (n x) rest s e) in
      omega (arith, is, length-drop (n x) bytes);
}

size_stable : (limit : ℕ) → IsStable (size_at limit)
size_stable limit = stays_stable (size_at limit) (λ x. 4) (size_stays limit)

pub bytes_stable : (n : ℕ) → IsStable (bytes_at n)
bytes_stable n = stays_stable (bytes_at n) (λ x. n) (bytes_stay n)

done_stable : {A : Type 0} (x : A) → IsStable (λ rest. Ok (x, rest))
done_stable {A} x = record {
  more = λ bytes behind y rest e. (let s = same_whole x y bytes rest e in ap (λ (z : A). Ok (z, bytes ++ behind)) s.0 ∙ ap (λ (l : List ℕ). Ok (y, l ++ behind)) s.1);
  less = λ bytes y rest e. (let s = same_whole x y bytes rest e in omega (arith, ap length s.1));
}

-- one behind the other
then_stable : {A B : Type 0} (p : List ℕ → Front A) (q : A → List ℕ → Front B) → IsStable p → ((x : A) → IsStable (q x)) → IsStable (λ bytes. p bytes >>= λ x. q x.0 x.1)
then_stable {A} {B} p q first second = record {
  more = λ bytes behind y rest e.
      let a = bind_ok (p bytes) (λ x. q x.0 x.1) (y, rest) e in
      rw (first.more bytes behind a.0.0 a.0.1 a.1) ((second a.0.0).more a.0.1 behind y rest a.2);
  less = λ bytes y rest e.
      let a = bind_ok (p bytes) (λ x. q x.0 x.1) (y, rest) e in
      let l = first.less bytes a.0.0 a.0.1 a.1 in
      let m = (second a.0.0).less a.0.1 y rest a.2 in
      omega (arith, l, m);
}

long_stable : IsStable long_at
long_stable = then_stable (size_at 4294967295) (λ hi rest. size_at 4294967295 rest >>= λ lo. Ok (hi * 4294967296 + lo.0, lo.1)) (size_stable 4294967295) (λ hi. then_stable (size_at 4294967295) (λ lo rest. Ok (hi * 4294967296 + lo, rest)) (size_stable 4294967295) (λ lo. done_stable (hi * 4294967296 + lo)))

head_stable : (f : Field) → IsStable (head_at f)
head_stable (text most) = size_stable most
head_stable word = size_stable 4294967295
head_stable long = long_stable

heads_stable : {A : Type 0} (fs : List Field) (k : Heads fs → List ℕ → Front A) → ((h : Heads fs) → IsStable (k h)) → IsStable (heads_then fs k)
heads_stable [] k s = s tt
heads_stable (f ∷ fs) k s = then_stable (head_at f) (λ n. heads_then fs (λ ns. k (n, ns))) (head_stable f) (λ n. heads_stable fs (λ ns. k (n, ns)) (λ ns. s (n, ns)))

body_stable : {A : Type 0} (fs : List Field) (h : Heads fs) (k : Values fs → List ℕ → Front A) → ((v : Values fs) → IsStable (k v)) → IsStable (body_then fs h k)
body_stable [] h k s = s tt
body_stable (text most ∷ fs) h k s = then_stable (bytes_at h.0) (λ x. body_then fs h.1 (λ v. k (x, v))) (bytes_stable h.0) (λ x. body_stable fs h.1 (λ v. k (x, v)) (λ v. s (x, v)))
body_stable (word ∷ fs) h k s = body_stable fs h.1 (λ v. k (h.0, v)) (λ v. s (h.0, v))
body_stable (long ∷ fs) h k s = body_stable fs h.1 (λ v. k (h.0, v)) (λ v. s (h.0, v))

items_stable : (most n left : ℕ) → IsStable (items_at most n left)
items_stable most zero left = done_stable []
items_stable most (suc n) left =
    then_stable (size_at (min most (left - 4 * suc n))) (λ size rest. bytes_at size rest >>= λ x. items_at most n (left - 4 - size) x.1 >>= λ xs. Ok (x.0 ∷ xs.0, xs.1)) (size_stable _) (λ size.
    then_stable (bytes_at size) (λ x rest. items_at most n (left - 4 - size) rest >>= λ xs. Ok (x ∷ xs.0, xs.1)) (bytes_stable size) (λ x.
    then_stable (items_at most n (left - 4 - size)) (λ xs rest. Ok (x ∷ xs, rest)) (items_stable most n (left - 4 - size)) (λ xs. done_stable (x ∷ xs))))

values_stable : (fs : List Field) → IsStable (values_at fs)
values_stable fs = heads_stable fs (λ h. body_then fs h (λ v rest. Ok (v, rest))) (λ h. body_stable fs h (λ v rest. Ok (v, rest)) (λ v. done_stable v))

counted_stable : (fs : List Field) (most : ℕ) → IsStable (counted_at fs most)
counted_stable fs most =
    heads_stable fs (λ h rest. size_at (room fs h / 4) rest >>= λ n. body_then fs h (λ v rest. items_at most n.0 (room fs h) rest >>= λ xs. Ok ((v, xs.0), xs.1)) n.1) (λ h.
    then_stable (size_at (room fs h / 4)) (λ n. body_then fs h (λ v rest. items_at most n (room fs h) rest >>= λ xs. Ok ((v, xs.0), xs.1))) (size_stable (room fs h / 4)) (λ n.
    body_stable fs h (λ v rest. items_at most n (room fs h) rest >>= λ xs. Ok ((v, xs.0), xs.1)) (λ v.
    then_stable (items_at most n (room fs h)) (λ xs rest. Ok ((v, xs), rest)) (items_stable most n (room fs h)) (λ xs. done_stable (v, xs)))))

entry_stable : (e : Entry) → IsStable (read_by e)
entry_stable (plain command fs build) = then_stable (values_at fs) (λ v rest. Ok (build v, rest)) (values_stable fs) (λ v. done_stable (build v))
entry_stable (counted command fs most build) = then_stable (counted_at fs most) (λ v rest. Ok (build v.0 v.1, rest)) (counted_stable fs most) (λ v. done_stable (build v.0 v.1))

bad_stable : {A : Type 0} → IsStable {A = A} (λ bytes. Err Bad)
bad_stable {A} = record { more = λ bytes behind x rest e. absurd cc; less = λ bytes x rest e. absurd cc }

if_stable : {A : Type 0} (b : Bool) (p q : List ℕ → Front A) → IsStable p → IsStable q → IsStable (λ bytes. cond b (p bytes) (q bytes))
if_stable true p q s t = s
if_stable false p q s t = t

pick_stable : (es : List Entry) (command : ℕ) → IsStable (pick es command)
pick_stable [] command = bad_stable
pick_stable (e ∷ es) command = if_stable (command == command_of e) (read_by e) (pick es command) (entry_stable e) (pick_stable es command)

byte_stable : IsStable byte_at
byte_stable = record { more = byte_more; less = byte_less }
  where
    byte_more : (bytes behind : List ℕ) (x : ℕ) (rest : List ℕ) → byte_at bytes ≡ Ok (x, rest) → byte_at (bytes ++ behind) ≡ Ok (x, rest ++ behind)
    byte_more [] behind x rest e = absurd cc
    byte_more (b ∷ bytes) behind x rest e = (let s = same_whole b x bytes rest e in ap (λ (z : ℕ). Ok (z, bytes ++ behind)) s.0 ∙ ap (λ (l : List ℕ). Ok (x, l ++ behind)) s.1)

    byte_less : (bytes : List ℕ) (x : ℕ) (rest : List ℕ) → byte_at bytes ≡ Ok (x, rest) → length rest ≤ length bytes
    byte_less [] x rest e = absurd cc
    byte_less (b ∷ bytes) x rest e = (let s = same_whole b x bytes rest e in omega (arith, ap length s.1))

fields_stable : (command : ℕ) → IsStable (fields_at command)
unfolding fields_at
fields_stable command = pick_stable entries command

command_stable : (magic : ℕ) → IsStable (command_at magic)
command_stable magic = if_stable (magic == 0xC8) (λ rest. byte_at rest >>= λ c. fields_at c.0 c.1) (λ rest. Err Bad) (then_stable byte_at fields_at byte_stable fields_stable) bad_stable

request_stable : IsStable request_at
unfolding request_at
request_stable = then_stable byte_at command_at byte_stable command_stable

pub request_more : (u m : List ℕ) (x : Request × List ℕ) → request_at u ≡ Ok x → request_at (u ++ m) ≡ Ok (x.0, x.1 ++ m)
request_more u m x e = request_stable.more u m x.0 x.1 e

-- a byte is less than what it is taken from
pub request_less : (u : List ℕ) (x : Request × List ℕ) → request_at u ≡ Ok x → length x.1 < length u
unfolding request_at
request_less [] x e = absurd cc
request_less (magic ∷ u) x e = (let l = (command_stable magic).less u x.0 x.1 e in omega (arith, l))
