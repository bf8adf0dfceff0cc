-- A part of a text command is short.
use Rattle.std.proofs.Common.{◌≡◌, ℕ, ◌+◌, ◌<◌, ◌≤◌, Bool, true, false, cond, eqb, ltb, List, [], ◌∷◌, length, Ok, Err, inl, inr, refl, ap, ◌∙◌, arith, length-append}
use Rattle.std.proofs.lemmas.Bool.{ltb-true, ltb-false}
use Rattle.tc_base.specs.declared.fields.NotWhole.TheVariants.{Part, Bad}
use Rattle.tc_base.specs.Reading.{Front, ◌>>=◌, bytes_at}
use Rattle.tc_base.proofs.Exact.{bind_err}
use Rattle.tc_base.proofs.ExactFields.{chosen}
use Rattle.ty_memc.specs.declared.text.Text.TheVariants.{Store}
use Rattle.ty_memc.specs.Words.{words}
use Rattle.ty_memc.specs.Lines.{Line, stores, says, closes, line_of}
use Rattle.ty_memc.specs.Reading.{line_len, line_at, byte_is, data_at, said, text_at}
use Rattle.ty_memc.specs.Fitting.{LineFits}
use Rattle.ty_memc.proofs.Storing.{line_fits}
use Rattle.ty_memc.proofs.Spelled.{line_found, front_bytes, byte_found}

-- ---- what is missing

byte_part : (b : ℕ) (bytes : List ℕ) → byte_is b bytes ≡ Err Part → length bytes ≡ 0
byte_part b [] e = refl
byte_part b (c ∷ bytes) e = go (eqb c b) e
  where
    go : (t : Bool) → cond {A = Front (Unit {0})} t (Ok (tt, bytes)) (Err Bad) ≡ Err Part → length (c ∷ bytes) ≡ 0
    go true e = absurd cc
    go false e = absurd cc

bytes_part : (n : ℕ) (bytes : List ℕ) → bytes_at n bytes ≡ Err Part → length bytes < n
bytes_part n bytes e = elim (chosen (ltb (length bytes) n) _ _ (Err Part) e) [
  | inl h ↦ ltb-true _ _ h.0
  | inr h ↦ absurd (let bad = h.1 in cc)
]

data_part : (size : ℕ) (bytes : List ℕ) → data_at size bytes ≡ Err Part → length bytes < size + 2
data_part size bytes e = elim (bind_err (bytes_at size bytes) (λ v. byte_is 13 v.1 >>= λ r. byte_is 10 r.1 >>= λ f. Ok (v.0, f.1)) Part e) [
  | inl a ↦ let l = bytes_part size bytes a in omega (arith, l)
  | inr a ↦
      let f = front_bytes size bytes a.0.0 a.0.1 a.1 in
      let len : length bytes ≡ size + length a.0.1 = ap length f.1 ∙ length-append a.0.0 a.0.1 ∙ ap (λ (n : ℕ). n + length a.0.1) f.0 in
      elim (bind_err (byte_is 13 a.0.1) (λ r. byte_is 10 r.1 >>= λ f. Ok (a.0.0, f.1)) Part a.2) [
        | inl b ↦ let l = byte_part 13 a.0.1 b in omega (arith, l, len)
        | inr b ↦
            let first = ap length (byte_found 13 a.0.1 b.0.0 b.0.1 b.1) in
            elim (bind_err (byte_is 10 b.0.1) (λ f. Ok (a.0.0, f.1)) Part b.2) [
              | inl d ↦ let l = byte_part 10 b.0.1 d in omega (arith, l, len, first)
              | inr d ↦ absurd (let bad = d.2 in cc)
            ]
      ]
]

said_part : (x : Line) (r : List ℕ) → LineFits x → said x r ≡ Err Part → length r < 16777218
said_part (stores word key size quiet) r fits e = elim (bind_err (data_at size r) (λ v. Ok (Store word key v.0 quiet, v.1)) Part e) [
  | inl a ↦ let l = data_part size r a in omega (arith, l, fits.1)
  | inr a ↦ absurd (let bad = a.2 in cc)
]
said_part (says text) r fits e = absurd cc
said_part closes r fits e = absurd cc

line_missing : (bytes : List ℕ) → line_at bytes ≡ Err Part → length bytes ≤ 2047
line_missing bytes e = elim (chosen (ltb 2047 (line_len bytes)) _ _ (Err Part) e) [
  | inl h ↦ absurd (let bad = h.1 in cc)
  | inr h ↦ elim (chosen (ltb (line_len bytes) (length bytes)) _ _ (Err Part) h.1) [
    | inl k ↦ absurd (let bad = k.1 in cc)
    | inr k ↦ let a = ltb-false _ _ h.0 in let b = ltb-false _ _ k.0 in omega (arith, a, b)
  ]
]

pub text_part : (bytes : List ℕ) → text_at bytes ≡ Err Part → length bytes < 16779266
unfolding text_at
text_part bytes e = elim (bind_err (line_at bytes) (λ l. said (line_of (words l.0)) l.1) Part e) [
  | inl a ↦ let l = line_missing bytes a in omega (arith, l)
  | inr a ↦
      let l = line_found bytes a.0.0 a.0.1 a.1 in
      let r = said_part (line_of (words a.0.0)) a.0.1 (line_fits (words a.0.0)) a.2 in
      omega (arith, r, l.short, ap length l.parts, length-append l.line (10 ∷ a.0.1))
]
