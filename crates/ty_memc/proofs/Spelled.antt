-- A text command is read exactly where it is spelled.
use Rattle.std.proofs.Common.{◌≡◌, ℕ, suc, ◌+◌, ◌<◌, ◌≤◌, inl, inr, Bool, true, false, cond, not, eqb, ltb, List, [], ◌∷◌, ◌++◌, length, take, drop, Ok, Err, refl, sym, ap, subst, ◌∙◌, arith, length-append, length-take, append_assoc}
use Rattle.std.specs.Prelude.{◌&&◌}
use Rattle.std.specs.List.{list_all, prefix_len}
use Rattle.std.proofs.lemmas.Bool.{eqb-true, ltb-true, ltb-false, le-ltb, cond-false, and_parts}
use Rattle.std.proofs.lemmas.List.{drop_at, take-append-drop}
use Rattle.std.proofs.Math.Seq.{take-append_seam}
use Rattle.tc_base.specs.declared.fields.NotWhole.TheVariants.{Bad}
use Rattle.tc_base.specs.Reading.{◌>>=◌, Front, bytes_at}
use Rattle.tc_base.proofs.Exact.{bind_ok, same_whole}
use Rattle.tc_base.proofs.ExactFields.{chosen}
use Rattle.ty_memc.specs.declared.text.Text.{Text}
use Rattle.ty_memc.specs.declared.text.Text.TheVariants.{Store}
use Rattle.ty_memc.specs.Words.{words}
use Rattle.ty_memc.specs.Lines.{Line, stores, says, closes, line_of}
use Rattle.ty_memc.specs.Reading.{is_inside, line_len, line_at, without_return, byte_is, data_at, said, text_at}
use Rattle.ty_memc.specs.Taking.{IsLineEnd}
use Rattle.ty_memc.specs.Grammar.{Means, SpellsText}
use Rattle.ty_memc.proofs.Fronts.{line_now}

-- ---- a run of bytes without a line feed

run_inside : (l : List ℕ) → prefix_len is_inside l < length l → (rest : List ℕ) × (l ≡ take (prefix_len is_inside l) l ++ 10 ∷ rest) × (drop (suc (prefix_len is_inside l)) l ≡ rest) × (list_all is_inside (take (prefix_len is_inside l) l) ≡ true)
run_inside [] less = absurd (omega (arith, less))
run_inside (b ∷ l) less = go (eqb b 10) refl less (run_inside l)
  where
    go : (t : Bool) → eqb b 10 ≡ t → cond (not t) (1 + prefix_len is_inside l) 0 < length (b ∷ l)
        → (prefix_len is_inside l < length l → (rest : List ℕ) × (l ≡ take (prefix_len is_inside l) l ++ 10 ∷ rest) × (drop (suc (prefix_len is_inside l)) l ≡ rest) × (list_all is_inside (take (prefix_len is_inside l) l) ≡ true))
        → (rest : List ℕ) × (b ∷ l ≡ take (cond (not t) (1 + prefix_len is_inside l) 0) (b ∷ l) ++ 10 ∷ rest) × (drop (suc (cond (not t) (1 + prefix_len is_inside l) 0)) (b ∷ l) ≡ rest) × (list_all is_inside (take (cond (not t) (1 + prefix_len is_inside l) 0) (b ∷ l)) ≡ true)
    go true e less h = (l, ap (λ (x : ℕ). x ∷ l) (eqb-true b 10 e), refl, refl)
    go false e less h =
        let one : suc (prefix_len is_inside l) ≡ 1 + prefix_len is_inside l = omega arith in
        let r = h (omega (arith, less)) in
        subst (λ (n : ℕ). (rest : List ℕ) × (b ∷ l ≡ take n (b ∷ l) ++ 10 ∷ rest) × (drop (suc n) (b ∷ l) ≡ rest) × (list_all is_inside (take n (b ∷ l)) ≡ true)) one
        (r.0, ap (λ (x : List ℕ). b ∷ x) r.1, r.2, ap (λ (t : Bool). not t && list_all is_inside (take (prefix_len is_inside l) l)) e ∙ r.3)

inside_run : (l rest : List ℕ) → list_all is_inside l ≡ true → prefix_len is_inside (l ++ 10 ∷ rest) ≡ length l
inside_run [] rest h = refl
inside_run (b ∷ l) rest h =
    let p = and_parts (is_inside b) (list_all is_inside l) h in
    ap (λ (t : Bool). cond t (1 + prefix_len is_inside (l ++ 10 ∷ rest)) 0) p.0 ∙ ap (λ (n : ℕ). 1 + n) (inside_run l rest p.1) ∙ omega arith

-- ---- a line

pub record LineFound (bytes l r : List ℕ) : Type 0 where
  pub line : List ℕ
  pub parts : bytes ≡ line ++ 10 ∷ r
  pub inside : list_all is_inside line ≡ true
  pub short : length line ≤ 2047
  pub is : l ≡ without_return line

pub line_found : (bytes l r : List ℕ) → line_at bytes ≡ Ok (l, r) → LineFound bytes l r
unfolding line_len
line_found bytes l r e = elim (chosen (ltb 2047 (line_len bytes)) _ _ (Ok (l, r)) e) [
  | inl h ↦ absurd (let bad = h.1 in cc)
  | inr h ↦ elim (chosen (ltb (line_len bytes) (length bytes)) _ _ (Ok (l, r)) h.1) [
    | inr k ↦ absurd (let bad = k.1 in cc)
    | inl k ↦
        let n : ℕ = prefix_len is_inside bytes in
        let within = ltb-true _ _ k.0 in
        let short = ltb-false _ _ h.0 in
        let f = run_inside bytes within in
        let s = same_whole (without_return (take n bytes)) l (drop (suc n) bytes) r k.1 in
        record {
          line = take n bytes;
          parts = f.1 ∙ ap (λ (x : List ℕ). take n bytes ++ 10 ∷ x) (sym f.2 ∙ s.1);
          inside = f.3;
          short = omega (arith, short, length-take n bytes);
          is = sym s.0;
        }
  ]
]

-- ---- a value

pub record DataFound (size : ℕ) (bytes v rest : List ℕ) : Type 0 where
  pub len : length v ≡ size
  pub parts : bytes ≡ (v ++ 13 ∷ 10 ∷ []) ++ rest

pub byte_found : (b : ℕ) (bytes : List ℕ) (x : Unit {0}) (rest : List ℕ) → byte_is b bytes ≡ Ok (x, rest) → bytes ≡ b ∷ rest
byte_found b [] x rest e = absurd cc
byte_found b (c ∷ bytes) x rest e = go (eqb c b) refl e
  where
    go : (t : Bool) → eqb c b ≡ t → cond {A = Front (Unit {0})} t (Ok (tt, bytes)) (Err Bad) ≡ Ok (x, rest) → c ∷ bytes ≡ b ∷ rest
    go true is e = (λ i. eqb-true c b is i ∷ (same_whole tt x bytes rest e).1 i)
    go false is e = absurd cc

pub front_bytes : (n : ℕ) (bytes x rest : List ℕ) → bytes_at n bytes ≡ Ok (x, rest) → (length x ≡ n) × (bytes ≡ x ++ rest)
front_bytes n bytes x rest e = elim (chosen (ltb (length bytes) n) _ _ (Ok (x, rest)) e) [
  | inl h ↦ absurd (let bad = h.1 in cc)
  | inr h ↦
      let long : n ≤ length bytes = ltb-false _ _ h.0 in
      let s = same_whole (take n bytes) x (drop n bytes) rest h.1 in
      (ap length (sym s.0) ∙ omega (arith, long, length-take n bytes), sym (take-append-drop n bytes) ∙ (λ i. s.0 i ++ s.1 i))
]

data_found : (size : ℕ) (bytes v rest : List ℕ) → data_at size bytes ≡ Ok (v, rest) → DataFound size bytes v rest
data_found size bytes v rest e =
    let a = bind_ok (bytes_at size bytes) (λ v. byte_is 13 v.1 >>= λ r. byte_is 10 r.1 >>= λ f. Ok (v.0, f.1)) (v, rest) e in
    let b = bind_ok (byte_is 13 a.0.1) (λ r. byte_is 10 r.1 >>= λ f. Ok (a.0.0, f.1)) (v, rest) a.2 in
    let c = bind_ok (byte_is 10 b.0.1) (λ f. Ok (a.0.0, f.1)) (v, rest) b.2 in
    let f = front_bytes size bytes a.0.0 a.0.1 a.1 in
    let last = same_whole a.0.0 v c.0.1 rest c.2 in
    record {
      len = ap length (sym last.0) ∙ f.0;
      parts = f.1 ∙ ap (λ (l : List ℕ). a.0.0 ++ l) (byte_found 13 a.0.1 b.0.0 b.0.1 b.1 ∙ ap (λ (l : List ℕ). 13 ∷ l) (byte_found 10 b.0.1 c.0.0 c.0.1 c.1))
          ∙ (λ i. last.0 i ++ (13 ∷ 10 ∷ last.1 i)) ∙ sym (append_assoc v (13 ∷ 10 ∷ []) rest);
    }

data_again : (v rest : List ℕ) → data_at (length v) ((v ++ 13 ∷ 10 ∷ []) ++ rest) ≡ Ok (v, rest)
data_again v rest =
    let all : List ℕ = v ++ (13 ∷ 10 ∷ rest) in
    ap (data_at (length v)) (append_assoc v (13 ∷ 10 ∷ []) rest)
    ∙ ap (λ (r : Front (List ℕ)). r >>= λ x. byte_is 13 x.1 >>= λ r. byte_is 10 r.1 >>= λ f. Ok (x.0, f.1)) (
    cond-false _ _ _ (le-ltb (length all) (length v) (omega (arith, length-append v (13 ∷ 10 ∷ rest)))) ∙ (λ i. Ok (take-append_seam v (13 ∷ 10 ∷ rest) i, drop_at v (13 ∷ 10 ∷ rest) (length v) refl i))
    )

-- ---- commands

pub record TextFound (t : Text) (bytes rest : List ℕ) : Type 0 where
  pub text : List ℕ
  pub spells : SpellsText t text
  pub parts : bytes ≡ text ++ rest

said_found : (x : Line) (t : Text) (r rest : List ℕ) → said x r ≡ Ok (t, rest) → (behind : List ℕ) × Means x t behind × (r ≡ behind ++ rest)
said_found (stores word key size quiet) t r rest e =
    let a = bind_ok (data_at size r) (λ v. Ok (Store word key v.0 quiet, v.1)) (t, rest) e in
    let d = data_found size r a.0.0 a.0.1 a.1 in
    let s = same_whole (Store word key a.0.0 quiet) t a.0.1 rest a.2 in
    (a.0.0 ++ 13 ∷ 10 ∷ [], (a.0.0, d.len, sym s.0, refl), d.parts ∙ ap (λ (l : List ℕ). (a.0.0 ++ 13 ∷ 10 ∷ []) ++ l) s.1)
said_found (says text) t r rest e = let s = same_whole text t r rest e in ([], (sym s.0, refl), s.1)
said_found closes t r rest e = absurd cc

pub text_found : (bytes : List ℕ) (t : Text) (rest : List ℕ) → text_at bytes ≡ Ok (t, rest) → TextFound t bytes rest
unfolding text_at
text_found bytes t rest e =
    let a = bind_ok (line_at bytes) (λ l. said (line_of (words l.0)) l.1) (t, rest) e in
    let l = line_found bytes a.0.0 a.0.1 a.1 in
    let s = said_found (line_of (words a.0.0)) t a.0.1 rest a.2 in
    record {
      text = l.line ++ 10 ∷ s.0;
      spells = record { line = l.line; value = s.0; parts = refl; inside = l.inside; short = l.short; means = subst (λ (x : List ℕ). Means (line_of (words x)) t s.0) l.is s.1 };
      parts = l.parts ∙ ap (λ (x : List ℕ). l.line ++ 10 ∷ x) s.2 ∙ sym (append_assoc l.line (10 ∷ s.0) rest);
    }

said_again : (x : Line) (t : Text) (behind rest : List ℕ) → Means x t behind → said x (behind ++ rest) ≡ Ok (t, rest)
said_again (stores word key size quiet) t behind rest m =
    let is : data_at size (behind ++ rest) ≡ Ok (m.0, rest) = (λ i. data_at (sym m.1 i) (m.3 i ++ rest)) ∙ data_again m.0 rest in
    ap (λ (r : Front (List ℕ)). r >>= λ v. Ok (Store word key v.0 quiet, v.1)) is ∙ ap (λ (x : Text). Ok (x, rest)) (sym m.2)
said_again (says text) t behind rest m = (λ i. Ok (sym m.0 i, m.1 i ++ rest))
said_again closes t behind rest m = absurd m

pub text_again : (t : Text) (text rest : List ℕ) → SpellsText t text → text_at (text ++ rest) ≡ Ok (t, rest)
unfolding line_len
text_again t text rest s =
    let n : ℕ = length s.line in
    let all : List ℕ = s.line ++ 10 ∷ (s.value ++ rest) in
    let parts : text ++ rest ≡ all = ap (λ (l : List ℕ). l ++ rest) s.parts ∙ append_assoc s.line (10 ∷ s.value) rest in
    let e : IsLineEnd n all = record {
      is = sym (inside_run s.line (s.value ++ rest) s.inside);
      within = omega (arith, length-append s.line (10 ∷ (s.value ++ rest)));
      short = s.short;
    } in
    let line : s.line ≡ take n all = sym (take-append_seam s.line (10 ∷ (s.value ++ rest))) in
    let behind : drop (n + 1) all ≡ s.value ++ rest = drop_one s.line 10 (s.value ++ rest) in
    ap text_at parts ∙ line_now all (without_return s.line) n (line_of (words (without_return s.line))) e (ap without_return line) refl ∙ ap (said (line_of (words (without_return s.line)))) behind ∙ said_again (line_of (words (without_return s.line))) t s.value rest s.means
  where
    drop_one : (l : List ℕ) (b : ℕ) (r : List ℕ) → drop (length l + 1) (l ++ b ∷ r) ≡ r
    drop_one l b r = ap (λ (n : ℕ). drop n (l ++ b ∷ r)) (sym (length-append l (b ∷ []))) ∙ ap (drop (length (l ++ b ∷ []))) (sym (append_assoc l (b ∷ []) r)) ∙ drop_at (l ++ b ∷ []) r (length (l ++ b ∷ [])) refl
