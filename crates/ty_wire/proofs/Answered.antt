-- What a reading says of the front, in the grammar's words.
use Rattle.std.proofs.Common.{◌≡◌, ℕ, ◌+◌, ◌-◌, ◌≤◌, List, ◌++◌, length, drop, Result, Ok, Err, refl, sym, ap, ◌∙◌, arith, length-append}
use Rattle.std.proofs.lemmas.List.Prefix.{front_rest}
use Rattle.tc_base.specs.declared.request.Request.{Request}
use Rattle.tc_base.specs.declared.fields.NotWhole.{NotWhole}
use Rattle.tc_base.specs.declared.fields.NotWhole.TheVariants.{Part, Bad}
use Rattle.ty_wire.specs.Prefixes.{IsPrefix, IsPart}
use Rattle.ty_wire.specs.Spelling.{spelling, Fits}
use Rattle.ty_wire.specs.Reading.{request_at}
use Rattle.ty_wire.specs.Taking.{HasOneAtMost}
use Rattle.tc_base.specs.Bytes.{IsBytes}
use Rattle.ty_wire.proofs.Requests.{exact_request}

pub record IsTaken (bytes : List ℕ) (r : Request) (rest : List ℕ) : Type 0 where
  pub fits : Fits r
  pub parts : bytes ≡ spelling r ++ rest
  pub shorter : length rest ≤ length bytes
  pub len : length (spelling r) ≡ length bytes - length rest
  pub rest_is : rest ≡ drop (length bytes - length rest) bytes

pub taken : (bytes : List ℕ) (r : Request) (rest : List ℕ) → IsBytes bytes → request_at bytes ≡ Ok (r, rest) → IsTaken bytes r rest
taken bytes r rest fits e =
    let f = exact_request.found bytes r rest fits e in
    let parts : bytes ≡ spelling r ++ rest = f.2 ∙ ap (λ (l : List ℕ). l ++ rest) f.1.1 in
    let sum : length bytes ≡ length (spelling r) + length rest = ap length parts ∙ length-append (spelling r) rest in
    let len : length (spelling r) ≡ length bytes - length rest = omega arith in
    record { fits = f.1.0; parts = parts; shorter = omega arith; len = len; rest_is = sym (front_rest bytes (spelling r) rest parts) ∙ ap (λ (n : ℕ). drop n bytes) len }

pub partly : (bytes : List ℕ) → IsBytes bytes → request_at bytes ≡ Err Part → (r : Request) × Fits r × IsPart bytes (spelling r)
partly bytes fits e = let f = exact_request.part bytes fits e in (f.0, f.3.0, (f.1, f.2, sym f.3.1))

-- a whole request is read
pub whole : (bytes : List ℕ) (r : Request) (rest : List ℕ) → Fits r → bytes ≡ spelling r ++ rest → request_at bytes ≡ Ok (r, rest)
whole bytes r rest fits parts = ap request_at parts ∙ exact_request.again r (spelling r) rest (fits, refl)

same_request : (r s : Request) (a b : List ℕ) → (x : Result (Request × List ℕ) NotWhole) → x ≡ Ok (r, a) → x ≡ Ok (s, b) → r ≡ s
same_request r s a b (Ok x) e f =
    let p : x ≡ (r, a) = cc in
    let q : x ≡ (s, b) = cc in
    sym (ap (λ (t : Request × List ℕ). t.0) p) ∙ ap (λ (t : Request × List ℕ). t.0) q
same_request r s a b (Err x) e f = absurd cc

-- whoever spells the front, it is the one that is read
pub alone : (bytes : List ℕ) → HasOneAtMost bytes
alone bytes r s f g p q = same_request r s p.0 q.0 (request_at bytes) (whole bytes r p.0 f p.1) (whole bytes s q.0 g q.1)

pub badly : (bytes : List ℕ) → request_at bytes ≡ Err Bad → (r : Request) → Fits r → (IsPrefix (spelling r) bytes → ⊥) × (IsPart bytes (spelling r) → ⊥)
badly bytes e r fits = (
  λ (h : IsPrefix (spelling r) bytes). let w = whole bytes r h.0 fits h.1 in cc,
  λ (h : IsPart bytes (spelling r)). let c = exact_request.cut r bytes h.0 h.1 (fits, sym h.2) in cc,
)
