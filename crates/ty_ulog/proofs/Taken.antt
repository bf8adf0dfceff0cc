-- What a reading says of the front, in the grammar's words.
use Rattle.std.proofs.Common.{◌≡◌, ℕ, ◌+◌, ◌-◌, ◌≤◌, List, [], ◌++◌, length, drop, Ok, Err, refl, sym, ap, ◌∙◌, arith, length-append, length-drop}
use Rattle.std.proofs.lemmas.List.Prefix.{front_rest}
use Rattle.std.proofs.lemmas.List.{append-nil, nil_from_length}
use Rattle.tc_base.specs.declared.fields.NotWhole.TheVariants.{Part, Bad}
use Rattle.tc_base.specs.Bytes.{IsBytes}
use Rattle.ty_wire.specs.Prefixes.{IsPrefix, IsPart}
use Rattle.ty_ulog.specs.declared.record.Record.{Record}
use Rattle.ty_ulog.specs.Records.{record_bytes, Fits, record_at, HasOneRecord, IsReadAs, IsReadRecord}
use Rattle.ty_ulog.specs.Updates.{IsUpdating}
use Rattle.ty_ulog.specs.Pieces.{AreUpdate}
use Rattle.tc_base.proofs.Exact.{same_whole}
use Rattle.ty_ulog.specs.declared.reading.RecTake.{RecTake}
use Rattle.ty_ulog.specs.declared.reading.RecTake.TheVariants as take
use Rattle.ty_ulog.proofs.Exact.{exact_record}

pub record IsTaken (bytes : List ℕ) (r : Record) (rest : List ℕ) : Type 0 where
  pub fits : Fits r
  pub parts : bytes ≡ record_bytes r ++ rest
  pub shorter : length rest ≤ length bytes
  pub len : length (record_bytes r) ≡ length bytes - length rest
  pub rest_is : rest ≡ drop (length bytes - length rest) bytes

pub taken : (bytes : List ℕ) (r : Record) (rest : List ℕ) → IsBytes bytes → record_at bytes ≡ Ok (r, rest) → IsTaken bytes r rest
taken bytes r rest fits e =
    let f = exact_record.found bytes r rest fits e in
    let parts : bytes ≡ record_bytes r ++ rest = f.2 ∙ ap (λ (l : List ℕ). l ++ rest) f.1.1 in
    let sum : length bytes ≡ length (record_bytes r) + length rest = ap length parts ∙ length-append (record_bytes r) rest in
    let len : length (record_bytes r) ≡ length bytes - length rest = omega arith in
    record { fits = f.1.0; parts = parts; shorter = omega arith; len = len; rest_is = sym (front_rest bytes (record_bytes r) rest parts) ∙ ap (λ (n : ℕ). drop n bytes) len }

pub partly : (bytes : List ℕ) → IsBytes bytes → record_at bytes ≡ Err Part → (r : Record) × Fits r × IsPart bytes (record_bytes r)
partly bytes fits e = let f = exact_record.part bytes fits e in (f.0, f.3.0, (f.1, f.2, sym f.3.1))

-- a whole record is read
pub whole : (bytes : List ℕ) (r : Record) (rest : List ℕ) → Fits r → bytes ≡ record_bytes r ++ rest → record_at bytes ≡ Ok (r, rest)
whole bytes r rest fits parts = ap record_at parts ∙ exact_record.again r (record_bytes r) rest (fits, refl)

pub badly : (bytes : List ℕ) → record_at bytes ≡ Err Bad → (r : Record) → Fits r → (IsPrefix (record_bytes r) bytes → ⊥) × (IsPart bytes (record_bytes r) → ⊥)
badly bytes e r fits = (
  λ (h : IsPrefix (record_bytes r) bytes). let w = whole bytes r h.0 fits h.1 in cc,
  λ (h : IsPart bytes (record_bytes r)). let c = exact_record.cut r bytes h.0 h.1 (fits, sym h.2) in cc,
)

-- 25 bytes in front of the request
pub long : (r : Record) → length (record_bytes r) ≡ 25 + length r.request
unfolding record_bytes
long r = omega arith

pub read_off : (bytes : List ℕ) (r : Record) (rest : List ℕ) → IsBytes bytes → record_at bytes ≡ Ok (r, rest) → IsReadRecord bytes (take.Whole (length bytes - length rest))
read_off bytes r rest fits e = let t = taken bytes r rest fits e in (r, omega arith, e ∙ ap (λ (l : List ℕ). Ok (r, l)) t.rest_is)

-- ---- bytes that are one record

pub same_record : (bytes : List ℕ) (r q : Record) (rest : List ℕ) → record_at bytes ≡ Ok (r, rest) → Fits q → bytes ≡ record_bytes q → r ≡ q
same_record bytes r q rest e f is = (same_whole r q rest [] (sym e ∙ whole bytes q [] f (is ∙ sym (append-nil (record_bytes q))))).0

pub not_one : (bytes : List ℕ) (t : RecTake) → IsReadRecord bytes t → (t ≡ take.Whole (length bytes) → ⊥) → (r : Record) → Fits r → bytes ≡ record_bytes r → ⊥
not_one bytes (take.Whole n) read ne r f is =
    let w = whole bytes r [] f (is ∙ sym (append-nil (record_bytes r))) in
    let none = (same_whole read.0 r (drop n bytes) [] (sym read.2 ∙ w)).1 in
    ne (ap take.Whole (let le = read.1 in omega (arith, le, ap length none, length-drop n bytes)))
not_one bytes take.Part read ne r f is = let w = whole bytes r [] f (is ∙ sym (append-nil (record_bytes r))) in absurd cc
not_one bytes take.Bad read ne r f is = let w = whole bytes r [] f (is ∙ sym (append-nil (record_bytes r))) in absurd cc

pub one_read : (bytes : List ℕ) → IsReadRecord bytes (take.Whole (length bytes)) → (r : Record) × IsReadAs bytes r []
one_read bytes read =
    let none : length (drop (length bytes) bytes) ≡ 0 = omega (arith, length-drop (length bytes) bytes) in
    (read.0, record { is = read.2 ∙ ap (λ (l : List ℕ). Ok (read.0, l)) (nil_from_length (drop (length bytes) bytes) none) })

-- whoever spells the front, it is the one that is read
pub alone : (bytes : List ℕ) → HasOneRecord bytes
alone bytes r s f g p q = (same_whole r s p.0 q.0 (sym (whole bytes r p.0 f p.1) ∙ whole bytes s q.0 g q.1)).0

pub are_update : (bytes : List ℕ) (q r : Record) (rest : List ℕ) → IsBytes bytes → record_at bytes ≡ Ok (q, []) → record_at bytes ≡ Ok (r, rest) → IsUpdating r.request
    → AreUpdate bytes (record { stamp = r.stamp; before = r.before; size = length bytes })
are_update bytes q r rest fits e g up =
    let t = taken bytes r rest fits g in
    let none = (same_whole r q rest [] (sym g ∙ e)).1 in
    let is : bytes ≡ record_bytes r = t.parts ∙ ap (λ (l : List ℕ). record_bytes r ++ l) none ∙ append-nil (record_bytes r) in
    let size : length bytes ≡ 25 + length r.request = ap length is ∙ long r in
    record {
      it = r;
      update = record { fits = t.fits; updating = up };
      is = is;
      head_is = λ i. record { stamp = r.stamp; before = r.before; size = size i };
    }
