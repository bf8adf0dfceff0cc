-- What ends the connection ends it whatever comes behind.
use Rattle.std.proofs.Common.{◌≡◌, ℕ, ◌+◌, ◌≤◌, Bool, true, false, cond, eqb, ltb, List, [], ◌∷◌, ◌++◌, length, take, drop, Ok, Err, inl, inr, refl, sym, ap, ◌∙◌, arith}
use Rattle.std.proofs.lemmas.Bool.{ltb-true, ltb-false}
use Rattle.tc_base.specs.declared.fields.NotWhole.TheVariants.{Part, Bad}
use Rattle.tc_base.specs.Reading.{Front, ◌>>=◌, bytes_at}
use Rattle.tc_base.proofs.Exact.{bind_err}
use Rattle.tc_base.proofs.ExactFields.{chosen}
use Rattle.ty_memc.specs.declared.text.Text.TheVariants.{Store}
use Rattle.ty_memc.specs.Words.{words}
use Rattle.ty_memc.specs.Lines.{Line, stores, says, closes, line_of}
use Rattle.ty_memc.specs.Reading.{line_len, without_return, byte_is, data_at, said, text_at}
use Rattle.ty_memc.specs.Taking.{IsLineEnd}
use Rattle.ty_memc.proofs.Feeds.{len_grows}
use Rattle.ty_memc.proofs.Fronts.{line_now, line_reads, no_line, too_long}
use Rattle.ty_memc.proofs.RequestFronts.{bytes_stable}

-- ---- behind a value

-- the line feed that ends the value v, and both bytes
abbrev feed : List ℕ → List ℕ → Front (List ℕ)
feed v bytes = byte_is 10 bytes >>= λ f. Ok (v, f.1)

abbrev ends : List ℕ → List ℕ → Front (List ℕ)
ends v bytes = byte_is 13 bytes >>= λ r. feed v r.1

-- where the first of the bytes is right or isn't
abbrev feed_if : List ℕ → Bool → List ℕ → Front (List ℕ)
feed_if v t bytes = cond {A = Front (Unit {0})} t (Ok (tt, bytes)) (Err Bad) >>= λ f. Ok (v, f.1)

abbrev ends_if : List ℕ → Bool → List ℕ → Front (List ℕ)
ends_if v t bytes = cond {A = Front (Unit {0})} t (Ok (tt, bytes)) (Err Bad) >>= λ r. feed v r.1

feed_bad : (v bytes more : List ℕ) → feed v bytes ≡ Err Bad → feed v (bytes ++ more) ≡ Err Bad
feed_bad v [] more e = absurd cc
feed_bad v (c ∷ bytes) more e = go (eqb c 10) e
  where
    go : (t : Bool) → feed_if v t bytes ≡ Err Bad → feed_if v t (bytes ++ more) ≡ Err Bad
    go true e = absurd cc
    go false e = refl

end_bad : (v bytes more : List ℕ) → ends v bytes ≡ Err Bad → ends v (bytes ++ more) ≡ Err Bad
end_bad v [] more e = absurd cc
end_bad v (c ∷ bytes) more e = go (eqb c 13) e
  where
    go : (t : Bool) → ends_if v t bytes ≡ Err Bad → ends_if v t (bytes ++ more) ≡ Err Bad
    go true e = feed_bad v bytes more e
    go false e = refl

never_bad : (n : ℕ) (bytes : List ℕ) → bytes_at n bytes ≡ Err Bad → ⊥
never_bad n bytes e = elim (chosen (ltb (length bytes) n) _ _ (Err Bad) e) [
  | inl h ↦ absurd (let bad = h.1 in cc)
  | inr h ↦ absurd (let bad = h.1 in cc)
]

data_bad : (size : ℕ) (bytes more : List ℕ) → data_at size bytes ≡ Err Bad → data_at size (bytes ++ more) ≡ Err Bad
data_bad size bytes more e = elim (bind_err (bytes_at size bytes) (λ v. ends v.0 v.1) Bad e) [
  | inl a ↦ absurd (never_bad size bytes a)
  | inr a ↦ ap (λ (q : Front (List ℕ)). q >>= λ v. ends v.0 v.1) ((bytes_stable size).more bytes more a.0.0 a.0.1 a.1) ∙ end_bad a.0.0 a.0.1 more a.2
]

-- ---- behind a line

said_bad : (x : Line) (bytes more : List ℕ) → said x bytes ≡ Err Bad → said x (bytes ++ more) ≡ Err Bad
said_bad (stores word key size quiet) bytes more e = elim (bind_err (data_at size bytes) (λ v. Ok (Store word key v.0 quiet, v.1)) Bad e) [
  | inl a ↦ ap (λ (q : Front (List ℕ)). q >>= λ v. Ok (Store word key v.0 quiet, v.1)) (data_bad size bytes more a)
  | inr a ↦ absurd (let bad = a.2 in cc)
]
said_bad (says text) bytes more e = absurd cc
said_bad closes bytes more e = refl

line_bad_stays : (bytes more : List ℕ) → IsLineEnd (line_len bytes) bytes → text_at bytes ≡ Err Bad → text_at (bytes ++ more) ≡ Err Bad
line_bad_stays bytes more ends e =
    let line : List ℕ = without_return (take (line_len bytes) bytes) in
    let now = line_now bytes line (line_len bytes) (line_of (words line)) ends refl refl in
    line_reads bytes line (line_len bytes) (line_of (words line)) more ends refl refl ∙ said_bad (line_of (words line)) (drop (line_len bytes + 1) bytes) more (sym now ∙ e)

not_bad : (bytes : List ℕ) → text_at bytes ≡ Err Part → text_at bytes ≡ Err Bad → ⊥
not_bad bytes part bad = let same = sym part ∙ bad in cc

pub bad_stays : (bytes more : List ℕ) → text_at bytes ≡ Err Bad → text_at (bytes ++ more) ≡ Err Bad
bad_stays bytes more e = go (ltb 2047 (line_len bytes)) refl
  where
    short : (t : Bool) → ltb (line_len bytes) (length bytes) ≡ t → line_len bytes ≤ 2047 → text_at (bytes ++ more) ≡ Err Bad
    short true is few = line_bad_stays bytes more (record { is = refl; within = ltb-true (line_len bytes) (length bytes) is; short = few }) e
    short false is few = let long = ltb-false (line_len bytes) (length bytes) is in absurd (not_bad bytes (no_line bytes long (omega (arith, few, long))) e)

    go : (t : Bool) → ltb 2047 (line_len bytes) ≡ t → text_at (bytes ++ more) ≡ Err Bad
    go true is = let long = ltb-true 2047 (line_len bytes) is in let grows = len_grows bytes more in too_long (bytes ++ more) (omega (arith, long, grows))
    go false is = let few = ltb-false 2047 (line_len bytes) is in short (ltb (line_len bytes) (length bytes)) refl (omega (arith, few))
