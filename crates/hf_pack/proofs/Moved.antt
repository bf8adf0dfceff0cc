-- Records moved to the front: which one stands where, and how long all are.
use Rattle.std.proofs.Common.{◌≡◌, ◌≢◌, ◌∙◌, inl, inr, ℕ, ◌+◌, ◌*◌, ◌/◌, ◌%◌, ◌^◌, ◌<◌, ◌≤◌, min, Bool, true, false, cond, ◌⊎◌, List, [], ◌∷◌, ◌++◌, length, Option, Some, None, refl, sym, ap, subst, arith, length-append, append_assoc}
use Rattle.std.specs.Prelude.{slice_get, unwrap_or}
use Rattle.std.proofs.lemmas.Bool.{cases_eq, cases_lt, eq-eqb, ne_eqb}
use Rattle.std.proofs.Math.Nat.{div-add-mod, mod-add-mod, mul-add, mul-le-mul_left}
use Rattle.hf_block.specs.declared.block.BlockAt.{BlockAt}
use Rattle.hf_block.specs.Pieces.{Record, Piece, held, free, size_of, is_free, IsSize, AllWhole, placed}
use Rattle.hf_block.proofs.Padding.{length-held}
use Rattle.hf_layout.specs.Layout.{record_of, record_at}
use Rattle.hf_layout.specs.Frees.{with_block}
use Rattle.hf_layout.proofs.Places.{here, later, long, long-append, long-cons, whole_parts}
use Rattle.hf_layout.proofs.Shares.{with_at, with_off}
use Rattle.hf_chain.specs.Heads.{capped}
use Rattle.hf_pack.specs.Moving.{moved, new_place, rechained, records_long, renamed}

-- ---- sizes

module _ (f : ℕ → ℕ) where
  pub size_same : (r : Record) → size_of (held (rechained f r)) ≡ size_of (held r)
  size_same r = length-held (rechained f r) ∙ sym (length-held r)

  pub moved_less : (ps : List Piece) → long (moved f ps) ≤ long ps
  moved_less [] = omega arith
  moved_less (held r ∷ ps) = omega (arith, moved_less ps, long-cons (held r) ps, long-cons (held (rechained f r)) (moved f ps), size_same r)
  moved_less (free size tail ∷ ps) = omega (arith, moved_less ps, long-cons (free size tail) ps)

  pub moved_long : (ps : List Piece) → long (moved f ps) ≡ records_long ps
  moved_long [] = refl
  moved_long (held r ∷ ps) = omega (arith, moved_long ps, long-cons (held (rechained f r)) (moved f ps), size_same r)
  moved_long (free size tail ∷ ps) = moved_long ps

  pub moved-append : (ps qs : List Piece) → moved f (ps ++ qs) ≡ moved f ps ++ moved f qs
  moved-append [] qs = refl
  moved-append (held r ∷ ps) qs = ap (λ (l : List Piece). held (rechained f r) ∷ l) (moved-append ps qs)
  moved-append (free size tail ∷ ps) qs = moved-append ps qs

  -- whole blocks stay so, where no chain grows
  pub moved_whole : (u : ℕ) (ps : List Piece) → ((n : ℕ) → f n ≤ n) → AllWhole u ps → AllWhole u (moved f ps)
  moved_whole u [] low whole = tt
  moved_whole u (held r ∷ ps) low whole = (
    record {
      fits = (whole.0.fits.0, less_then (low r.left) whole.0.fits.1, less_then (low r.right) whole.0.fits.2, whole.0.fits.3);
      size = subst (λ (n : ℕ). IsSize u n) (sym (size_same r)) whole.0.size;
    },
    moved_whole u ps low whole.1,
  )
    where
      less_then : {a b c : ℕ} → a ≤ b → b < c → a < c
      less_then x y = omega (arith, x, y)
  moved_whole u (free size tail ∷ ps) low whole = moved_whole u ps low whole.1

-- ---- places

pub record Forth (f : ℕ → ℕ) (at to : ℕ) (ps : List Piece) (q : ℕ) (r : Record) : Type 0 where
  pub place : ℕ
  pub goes : new_place at to ps q ≡ Some place
  pub there : record_at to (moved f ps) place ≡ Some (rechained f r)
  pub low : to ≤ place

pub record Back (f : ℕ → ℕ) (at to : ℕ) (ps : List Piece) (t : ℕ) (s : Record) : Type 0 where
  pub place : ℕ
  pub r : Record
  pub there : record_at at ps place ≡ Some r
  pub goes : new_place at to ps place ≡ Some t
  pub is : s ≡ rechained f r
  pub low : at ≤ place

place_here : (at to q : ℕ) (r : Record) (ps : List Piece) → q ≡ at → new_place at to (held r ∷ ps) q ≡ Some to
place_here at to q r ps e = ap (λ (b : Bool). cond b (Some to) (new_place (at + size_of (held r)) (to + size_of (held r)) ps q)) (eq-eqb q at e)

place_later : (at to q : ℕ) (r : Record) (ps : List Piece) → q ≢ at → new_place at to (held r ∷ ps) q ≡ new_place (at + size_of (held r)) (to + size_of (held r)) ps q
place_later at to q r ps ne = ap (λ (b : Bool). cond b (Some to) (new_place (at + size_of (held r)) (to + size_of (held r)) ps q)) (ne_eqb q at ne)

module _ (f : ℕ → ℕ) (u : ℕ) where
  -- each record is moved
  pub there_forth : (at to : ℕ) (ps : List Piece) (q : ℕ) (r : Record) → AllWhole u ps → record_at at ps q ≡ Some r → Forth f at to ps q r
  there_forth at to [] q r whole e = absurd (let g : None ≡ Some r = e in cc)
  there_forth at to (held x ∷ ps) q r whole e = elim (cases_eq q at) [
    | inl same ↦ (let g : Some x ≡ Some r = sym (ap record_of (here at (held x) ps q same)) ∙ e in let is : x ≡ r = cc in
        record { place = to; goes = place_here at to q x ps same; there = ap record_of (here to (held (rechained f x)) (moved f ps) to refl) ∙ ap (λ (z : Record). Some (rechained f z)) is; low = omega arith })
    | inr ne ↦ (let w = there_forth (at + size_of (held x)) (to + size_of (held x)) ps q r whole.1 (sym (ap record_of (later at (held x) ps q ne)) ∙ e) in
        record {
          place = w.place;
          goes = place_later at to q x ps ne ∙ w.goes;
          there = ap record_of (later to (held (rechained f x)) (moved f ps) w.place (omega (arith, w.low, whole.0.size.some))) ∙ ap (λ (n : ℕ). record_at (to + n) (moved f ps) w.place) (size_same f x) ∙ w.there;
          low = omega (arith, w.low);
        })
  ]
  there_forth at to (free size tail ∷ ps) q r whole e = elim (cases_eq q at) [
    | inl same ↦ absurd (let g : None ≡ Some r = sym (ap record_of (here at (free size tail) ps q same)) ∙ e in cc)
    | inr ne ↦ (let w = there_forth (at + size_of (free size tail)) to ps q r whole.1 (sym (ap record_of (later at (free size tail) ps q ne)) ∙ e) in
        record { place = w.place; goes = w.goes; there = w.there; low = w.low })
  ]

  -- and what stands there was
  pub there_back : (at to : ℕ) (ps : List Piece) (t : ℕ) (s : Record) → AllWhole u ps → record_at to (moved f ps) t ≡ Some s → Back f at to ps t s
  there_back at to [] t s whole e = absurd (let g : None ≡ Some s = e in cc)
  there_back at to (held x ∷ ps) t s whole e = elim (cases_eq t to) [
    | inl same ↦ (let g : Some (rechained f x) ≡ Some s = sym (ap record_of (here to (held (rechained f x)) (moved f ps) t same)) ∙ e in let is : rechained f x ≡ s = cc in
        record { place = at; r = x; there = ap record_of (here at (held x) ps at refl); goes = place_here at to at x ps refl ∙ ap (λ (n : ℕ). Some n) (sym same); is = sym is; low = omega arith })
    | inr ne ↦ (let w = there_back (at + size_of (held x)) (to + size_of (held x)) ps t s whole.1 (ap (λ (n : ℕ). record_at (to + n) (moved f ps) t) (sym (size_same f x)) ∙ sym (ap record_of (later to (held (rechained f x)) (moved f ps) t ne)) ∙ e) in
        let off : w.place ≢ at = omega (arith, w.low, whole.0.size.some) in
        record { place = w.place; r = w.r; there = ap record_of (later at (held x) ps w.place off) ∙ w.there; goes = place_later at to w.place x ps off ∙ w.goes; is = w.is; low = omega (arith, w.low) })
  ]
  there_back at to (free size tail ∷ ps) t s whole e =
      let w = there_back (at + size_of (free size tail)) to ps t s whole.1 e in
      let off : w.place ≢ at = omega (arith, w.low, whole.0.size.some) in
      record { place = w.place; r = w.r; there = ap record_of (later at (free size tail) ps w.place off) ∙ w.there; goes = w.goes; is = w.is; low = omega (arith, w.low) }

-- where a record goes lies no further, and is a multiple of the unit
pub record Goes (u at to : ℕ) (ps : List Piece) (q t : ℕ) : Type 0 where
  pub before : t ≤ q
  pub from : at ≤ q
  pub within : q < at + long ps
  pub aligned : t % u ≡ 0

sum_aligned : (u a b : ℕ) → a % u ≡ 0 → b % u ≡ 0 → (a + b) % u ≡ 0
sum_aligned u a b x y = sym (mod-add-mod a u b) ∙ ap (λ (n : ℕ). (n + b) % u) x ∙ ap (λ (n : ℕ). n % u) (omega arith) ∙ y

pub goes : (u at to : ℕ) (ps : List Piece) (q t : ℕ) → AllWhole u ps → to ≤ at → to % u ≡ 0 → new_place at to ps q ≡ Some t → Goes u at to ps q t
goes u at to [] q t whole low even e = absurd (let g : None ≡ Some t = e in cc)
goes u at to (held x ∷ ps) q t whole low even e = elim (cases_eq q at) [
  | inl same ↦ (let g : Some to ≡ Some t = sym (place_here at to q x ps same) ∙ e in let is : to ≡ t = cc in
      record { before = omega (arith, is, same, low); from = omega (arith, same); within = omega (arith, same, long-cons (held x) ps, whole.0.size.some); aligned = ap (λ (n : ℕ). n % u) (sym is) ∙ even })
  | inr ne ↦ (let w = goes u (at + size_of (held x)) (to + size_of (held x)) ps q t whole.1 (omega (arith, low)) (sum_aligned u to (size_of (held x)) even whole.0.size.aligned) (sym (place_later at to q x ps ne) ∙ e) in
      record { before = w.before; from = omega (arith, w.from); within = omega (arith, w.within, long-cons (held x) ps); aligned = w.aligned })
]
goes u at to (free size tail ∷ ps) q t whole low even e =
    let w = goes u (at + size_of (free size tail)) to ps q t whole.1 (omega (arith, low)) even e in
    record { before = w.before; from = omega (arith, w.from); within = omega (arith, w.within, long-cons (free size tail) ps); aligned = w.aligned }

pub mul_more : (u n k : ℕ) → n < k → u * n + u ≤ u * k
mul_more u n k less = omega (arith, mul-le-mul_left {m = n + 1} {n = k} u (omega (arith, less)), mul-add u n 1)

-- ---- links renamed

-- the new place of what a link names, or 0
abbrev pub placed_in : (ℕ → Option ℕ) → ℕ → ℕ
placed_in places q = unwrap_or (places q) 0

pub renamed_low : (u : ℕ) (places : ℕ → Option ℕ) (n : ℕ) → renamed u places n ≤ n
renamed_low u places n = omega arith

-- a link stored anew names the new place
pub renamed_is : (u first : ℕ) (ps : List Piece) (n : ℕ) → 0 < u → AllWhole u ps → first % u ≡ 0 → first + long ps ≤ 2 ^ 40 → u * renamed u (new_place first first ps) n ≡ placed_in (new_place first first ps) (u * n)
renamed_is u first ps n some whole even short = go (new_place first first ps (u * n)) refl
  where
    far : (q : ℕ) → first + long ps ≤ q → new_place first first ps q ≡ None
    far q high = none_at (new_place first first ps q) refl
      where
        none_at : (o : Option ℕ) → new_place first first ps q ≡ o → o ≡ None
        none_at None e = refl
        none_at (Some t) e = absurd (omega (arith, (goes u first first ps q t whole (omega arith) even e).within, high))

    none_capped : new_place first first ps (u * n) ≡ None → new_place first first ps (capped (u * n)) ≡ None
    none_capped e = elim (cases_lt (u * n) (2 ^ 64)) [
      | inl less ↦ ap (new_place first first ps) (capped_low less) ∙ e
      | inr past ↦ far (capped (u * n)) (omega (arith, past, short))
    ]
      where
        capped_low : u * n < 2 ^ 64 → capped (u * n) ≡ u * n
        capped_low less = omega (arith, less)

    go : (o : Option ℕ) → new_place first first ps (u * n) ≡ o → u * renamed u (new_place first first ps) n ≡ placed_in (new_place first first ps) (u * n)
    go None e =
        let none_there = none_capped e in
        (λ i. u * min (unwrap_or (none_there i) 0 / u) n) ∙ zero_of ∙ sym (ap (λ (o : Option ℕ). unwrap_or o 0) e)
      where
        zero_of : u * min (0 / u) n ≡ 0
        zero_of = let z : 0 / u ≡ 0 = omega arith in let m : min (0 / u) n ≡ 0 = omega (arith, z) in ap (λ (k : ℕ). u * k) m ∙ omega arith
    go (Some t) e =
        let w = goes u first first ps (u * n) t whole (omega arith) even e in
        let c : capped (u * n) ≡ u * n = omega (arith, w.within, short) in
        let there : new_place first first ps (capped (u * n)) ≡ Some t = ap (new_place first first ps) c ∙ e in
        let d : u * (t / u) ≡ t = omega (arith, div-add-mod t u, w.aligned) in
        let less : t / u ≤ n = fewer (t / u) d w.before in
        (λ i. u * min (unwrap_or (there i) 0 / u) n) ∙ ap (λ (k : ℕ). u * k) (lesser less) ∙ d ∙ sym (ap (λ (o : Option ℕ). unwrap_or o 0) e)
      where
        fewer : (k : ℕ) → u * k ≡ t → t ≤ u * n → k ≤ n
        fewer k d le = elim (cases_lt n k) [
          | inl past ↦ absurd (let m = mul_more u n k past in omega (arith, m, d, le, some))
          | inr low ↦ low
        ]

        lesser : t / u ≤ n → min (t / u) n ≡ t / u
        lesser le = omega (arith, le)

-- ---- blocks one by one

-- so many blocks are done
pub record Row (ps : List Piece) (i : ℕ) : Type 0 where
  pub front : List Piece
  pub back : List Piece
  pub is : ps ≡ front ++ back
  pub count : length front ≡ i

-- the next one
pub record Next (at : ℕ) (front back : List Piece) (b : BlockAt) : Type 0 where
  pub piece : Piece
  pub rest : List Piece
  pub is : back ≡ piece ∷ rest
  pub place : b.place ≡ at + long front
  pub size : b.size ≡ size_of piece
  pub kind : b.free ≡ is_free piece

next : (at : ℕ) (front back : List Piece) (b : BlockAt) → slice_get (placed at (front ++ back)) (length front) ≡ Some b → Next at front back b
next at [] [] b e = absurd (let f : None ≡ Some b = e in cc)
next at [] (p ∷ ps) b e =
    let f : ◌≡◌ {A = BlockAt} (record { place = at; size = size_of p; free = is_free p }) b = (let g : ◌≡◌ (Some (record { place = at; size = size_of p; free = is_free p })) (Some b) = e in cc) in
    record { piece = p; rest = ps; is = refl; place = sym (ap (λ (z : BlockAt). z.place) f) ∙ omega arith; size = sym (ap (λ (z : BlockAt). z.size) f); kind = sym (ap (λ (z : BlockAt). z.free) f) }
next at (q ∷ front) back b e =
    let w = next (at + size_of q) front back b e in
    record { piece = w.piece; rest = w.rest; is = w.is; place = omega (arith, w.place, long-cons q front); size = w.size; kind = w.kind }

pub next_of : (first : ℕ) (ps : List Piece) (blocks : List BlockAt) (i : ℕ) (b : BlockAt) (s : Row ps i) → blocks ≡ placed first ps → slice_get blocks i ≡ Some b → Next first s.front s.back b
next_of first ps blocks i b s listed at = next first s.front s.back b ((λ j. slice_get (placed first (sym s.is j)) (s.count j)) ∙ ap (λ (z : List BlockAt). slice_get z i) (sym listed) ∙ at)

abbrev pub row_start : (ps : List Piece) → Row ps 0
row_start ps = record { front = []; back = ps; is = refl; count = refl }

abbrev pub row_on : (first : ℕ) (ps : List Piece) (i : ℕ) (b : BlockAt) (s : Row ps i) → Next first s.front s.back b → Row ps (i + 1)
row_on first ps i b s n = record {
  front = s.front ++ n.piece ∷ [];
  back = n.rest;
  is = s.is ∙ ap (λ (l : List Piece). s.front ++ l) n.is ∙ sym (append_assoc s.front (n.piece ∷ []) n.rest);
  count = omega (arith, length-append s.front (n.piece ∷ []), s.count);
}

length-placed : (at : ℕ) (ps : List Piece) → length (placed at ps) ≡ length ps
length-placed at [] = refl
length-placed at (p ∷ ps) = omega (arith, length-placed (at + size_of p) ps)

nothing_left : (xs ys : List Piece) → length (xs ++ ys) ≤ length xs → ys ≡ []
nothing_left xs [] low = refl
nothing_left xs (y ∷ ys) low = absurd (omega (arith, low, length-append xs (y ∷ ys)))

-- no block is left
pub row_end : (first : ℕ) (ps : List Piece) (blocks : List BlockAt) (i : ℕ) (s : Row ps i) → blocks ≡ placed first ps → length blocks ≤ i → s.back ≡ []
row_end first ps blocks i s listed far = nothing_left s.front s.back (omega (arith, ap length listed, length-placed first ps, ap length s.is, s.count, far))

pub row_whole : (u : ℕ) (ps : List Piece) (i : ℕ) (s : Row ps i) → AllWhole u ps → AllWhole u s.front × AllWhole u s.back
row_whole u ps i s whole = whole_parts u s.front s.back (subst (λ (l : List Piece). AllWhole u l) s.is whole)

-- ---- the new places, one record after the other

abbrev first_of : Option ℕ → Option ℕ → Option ℕ
first_of None o = o
first_of (Some x) o = Some x

pub record TargetsSo (first : ℕ) (ps : List Piece) (i to : ℕ) (places : ℕ → Option ℕ) : Type 0 where
  pub row : Row ps i
  pub to_is : to ≡ first + long (moved (λ n. n) row.front)
  pub so : (q : ℕ) → first_of (places q) (new_place (first + long row.front) to row.back q) ≡ new_place first first ps q
  pub none : (q : ℕ) → first + long row.front ≤ q → places q ≡ None

pub targets_start : (first : ℕ) (ps : List Piece) (places : ℕ → Option ℕ) → ((q : ℕ) → places q ≡ None) → TargetsSo first ps 0 first places
targets_start first ps places nothing = record {
  row = row_start ps;
  to_is = omega arith;
  so = λ q. ap (λ (o : Option ℕ). first_of o (new_place (first + 0) first ps q)) (nothing q) ∙ ap (λ (n : ℕ). new_place n first ps q) (omega arith);
  none = λ q high. nothing q;
}

module _ (first : ℕ) (ps : List Piece) (blocks : List BlockAt) (i to : ℕ) (places : ℕ → Option ℕ) (b : BlockAt) (t : TargetsSo first ps i to places) (listed : blocks ≡ placed first ps) (at : slice_get blocks i ≡ Some b) where
  abbrev nx : Next first t.row.front t.row.back b
  nx = next_of first ps blocks i b t.row listed at

  front_long : (p : Piece) → p ≡ nx.piece → long (t.row.front ++ nx.piece ∷ []) ≡ long t.row.front + size_of p
  front_long p e = omega (arith, long-append t.row.front (nx.piece ∷ []), long-cons nx.piece [], ap size_of e)

  moved_front : long (moved (λ n. n) (t.row.front ++ nx.piece ∷ [])) ≡ long (moved (λ n. n) t.row.front) + long (moved (λ n. n) (nx.piece ∷ []))
  moved_front = ap long (moved-append (λ n. n) t.row.front (nx.piece ∷ [])) ∙ long-append (moved (λ n. n) t.row.front) (moved (λ n. n) (nx.piece ∷ []))

  pub targets_free : b.free ≡ true → TargetsSo first ps (i + 1) to places
  targets_free is = go nx.piece refl
    where
      go : (p : Piece) → p ≡ nx.piece → TargetsSo first ps (i + 1) to places
      go (held r) e = absurd (let f : true ≡ false = sym is ∙ nx.kind ∙ ap is_free (sym e) in cc)
      go (free size tail) e = record {
        row = row_on first ps i b t.row nx;
        to_is = t.to_is ∙ ap (λ (n : ℕ). first + n) (sym (moved_front ∙ ap (λ (p : Piece). long (moved (λ n. n) t.row.front) + long (moved (λ n. n) (p ∷ []))) (sym e) ∙ omega arith));
        so = λ q. ap (λ (n : ℕ). first_of (places q) (new_place (first + n) to nx.rest q)) (front_long (free size tail) e)
            ∙ ap (λ (n : ℕ). first_of (places q) (new_place n to nx.rest q)) (omega arith)
            ∙ ap (λ (l : List Piece). first_of (places q) (new_place (first + long t.row.front) to l q)) (sym (nx.is ∙ ap (λ (p : Piece). p ∷ nx.rest) (sym e)))
            ∙ t.so q;
        none = λ q high. t.none q (omega (arith, high, front_long (free size tail) e));
      }

  pub room_for : b.free ≡ false → to + b.size ≤ first + long ps
  room_for is = go nx.piece refl
    where
      go : (p : Piece) → p ≡ nx.piece → to + b.size ≤ first + long ps
      go (free size tail) e = absurd (let f : false ≡ true = sym is ∙ nx.kind ∙ ap is_free (sym e) in cc)
      go (held r) e = omega (arith, t.to_is, moved_less (λ n. n) t.row.front, ap long t.row.is, long-append t.row.front t.row.back, ap long nx.is, long-cons nx.piece nx.rest, nx.size)

  pub targets_held : (u to' : ℕ) (places' : ℕ → Option ℕ) → AllWhole u ps → b.free ≡ false → ((q : ℕ) → places' q ≡ with_block places b.place to q) → to' ≡ to + b.size → TargetsSo first ps (i + 1) to' places'
  targets_held u to' places' whole is put grown = go nx.piece refl
    where
      back_whole : AllWhole u (nx.piece ∷ nx.rest)
      back_whole = subst (λ (l : List Piece). AllWhole u l) nx.is (row_whole u ps i t.row whole).1

      go : (p : Piece) → p ≡ nx.piece → TargetsSo first ps (i + 1) to' places'
      go (free size tail) e = absurd (let f : false ≡ true = sym is ∙ nx.kind ∙ ap is_free (sym e) in cc)
      go (held r) e = record {
        row = row_on first ps i b t.row nx;
        to_is = omega (arith, grown, t.to_is, moved_front, ap (λ (p : Piece). long (moved (λ n. n) (p ∷ []))) (sym e), long-cons (held (rechained (λ n. n) r)) [], size_same (λ n. n) r, nx.size, ap size_of e);
        so = λ q. after q (cases_eq q b.place);
        none = λ q high. put q ∙ with_off places b.place to q (omega (arith, high, front_long (held r) e, nx.place, some)) ∙ t.none q (omega (arith, high, front_long (held r) e));
      }
        where
          some : 0 < size_of (held r)
          some = omega (arith, ap size_of e, back_whole.0.size.some)

          at_is : b.place ≡ first + long t.row.front
          at_is = nx.place

          size_is : b.size ≡ size_of (held r)
          size_is = nx.size ∙ ap size_of (sym e)

          was : (q : ℕ) → first_of (places q) (new_place (first + long t.row.front) to (held r ∷ nx.rest) q) ≡ new_place first first ps q
          was q = ap (λ (l : List Piece). first_of (places q) (new_place (first + long t.row.front) to l q)) (sym (nx.is ∙ ap (λ (p : Piece). p ∷ nx.rest) (sym e))) ∙ t.so q

          next_at : (q : ℕ) → new_place (first + long (t.row.front ++ nx.piece ∷ [])) to' nx.rest q ≡ new_place (first + long t.row.front + size_of (held r)) (to + size_of (held r)) nx.rest q
          next_at q = ap (λ (n : ℕ). new_place n to' nx.rest q) (omega (arith, front_long (held r) e)) ∙ ap (λ (n : ℕ). new_place (first + long t.row.front + size_of (held r)) n nx.rest q) (omega (arith, grown, size_is))

          after : (q : ℕ) → (q ≡ b.place) ⊎ (q ≢ b.place) → first_of (places' q) (new_place (first + long (t.row.front ++ nx.piece ∷ [])) to' nx.rest q) ≡ new_place first first ps q
          after q (inl same) =
              ap (λ (o : Option ℕ). first_of o (new_place (first + long (t.row.front ++ nx.piece ∷ [])) to' nx.rest q)) (put q ∙ with_at places b.place to q same)
              ∙ sym (ap (λ (o : Option ℕ). first_of o (new_place (first + long t.row.front) to (held r ∷ nx.rest) q)) (t.none q (omega (arith, same, at_is))) ∙ place_here (first + long t.row.front) to q r nx.rest (same ∙ at_is))
              ∙ was q
          after q (inr ne) =
              ap (λ (o : Option ℕ). first_of o (new_place (first + long (t.row.front ++ nx.piece ∷ [])) to' nx.rest q)) (put q ∙ with_off places b.place to q ne)
              ∙ ap (first_of (places q)) (next_at q ∙ sym (place_later (first + long t.row.front) to q r nx.rest (λ x. ne (x ∙ sym at_is))))
              ∙ was q

pub targets_all : (first : ℕ) (ps : List Piece) (blocks : List BlockAt) (i to : ℕ) (places : ℕ → Option ℕ) → TargetsSo first ps i to places → blocks ≡ placed first ps → length blocks ≤ i → (q : ℕ) → places q ≡ new_place first first ps q
targets_all first ps blocks i to places t listed far q = end_of (places q) ∙ ap (λ (l : List Piece). first_of (places q) (new_place (first + long t.row.front) to l q)) (sym (row_end first ps blocks i t.row listed far)) ∙ t.so q
  where
    end_of : (o : Option ℕ) → o ≡ first_of o None
    end_of None = refl
    end_of (Some x) = refl
