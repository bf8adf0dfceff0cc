-- A put whose value is gathered apart, by its spelling and by its reading.
use Rattle.std.proofs.Common.{◌≡◌, inl, inr, ℕ, ◌+◌, ◌-◌, ◌<◌, ◌≤◌, List, [], ◌∷◌, ◌++◌, length, take, drop, replicate, refl, sym, ap, subst, ◌∙◌, arith, append_assoc, length-append, Ok, Err}
use Rattle.std.proofs.Math.Nat.{eq-or-lt_of_le}
use Rattle.std.proofs.Math.Seq.{take-append_seam}
use Rattle.std.proofs.lemmas.List.{append-nil, length-replicate, take-append-drop}
use Rattle.std.proofs.lemmas.List.Prefix.{front_rest}
use Rattle.std.specs.Int.{w32, to_be_bytes}
use Rattle.std.specs.Prelude.{Option, Some, None, if◌then◌else◌, ◌&&◌, Bool, true, false}
use Rattle.tc_base.specs.declared.request.Request.{Request}
use Rattle.tc_base.specs.declared.request.Request.TheVariants.{Put}
use Rattle.tc_base.specs.declared.fields.NotWhole.TheVariants as not_whole
use Rattle.tc_base.specs.Bytes.{IsBytes}
use Rattle.tc_base.specs.Reading.{size_at, bytes_at}
use Rattle.tc_base.proofs.Exact.{IsBytes-rest}
use Rattle.tc_base.proofs.ExactFields.{exact_size, exact_bytes}
use Rattle.ty_wire.specs.declared.reading.Front.TheVariants.{Whole, Part}
use Rattle.ty_wire.specs.Spelling.{spelling, Fits}
use Rattle.ty_memc.specs.declared.text.Piece.{Piece}
use Rattle.ty_memc.specs.declared.text.Piece.TheVariants as piece
use Rattle.ty_wire.proofs.Requests.{exact_request}
use Rattle.ty_memc.specs.Grammar.{Spells, begins_text, piece_at}
use Rattle.ty_memc.specs.Fronts.{IsPieceRead, TakesPiece}
use Rattle.ty_memc.proofs.PieceGrammar.{again_request, request_begins}
use Rattle.ty_memc.proofs.PieceFronts.{request_read, takes_request}
use Rattle.ty_core.specs.declared.large.Large.{Large}
use Rattle.ty_core.specs.Gathering.{put_head, BeginsPut, Gathers, MayGather, all_of}
use Rattle.tc_model.specs.Apply.{updates}
use Rattle.ty_core.specs.declared.taking.Taken.{Taken}
use Rattle.ty_core.specs.Serving.{IsTaken, IsWhole, PieceFits, copy_of}

-- ---- the spelling

put_spelled : (key value behind : List ℕ) (size : ℕ) → length value ≡ size → put_head key size ++ (value ++ behind) ≡ spelling (Put key value) ++ behind
unfolding spelling
put_spelled key value behind size is =
    ap (λ (n : ℕ). put_head key n ++ (value ++ behind)) (sym is)
    ∙ ap (λ (l : List ℕ). 0xC8 ∷ 0x10 ∷ (to_be_bytes w32 (length key) ++ (to_be_bytes w32 (length value) ++ l))) (sym (append_assoc key (value ++ []) behind ∙ ap (λ (l : List ℕ). key ++ l) (append_assoc value [] behind)))

put_fits : (key value : List ℕ) → length key ≤ 1048576 → length value ≤ 16777216 → Fits (Put key value)
put_fits key value k v = ((k, (v, tt)), tt)

-- a request, and what stands behind it
pub record IsPut (l : Large) (behind : List ℕ) (r : Request) : Type 0 where
  pub fits : Fits r
  pub parts : all_of (Some l) behind ≡ spelling r ++ behind

pub is_put : (l : Large) (behind key value : List ℕ) → BeginsPut l.head l.size → length l.value ≡ l.size → key ≡ drop 10 l.head → value ≡ l.value → IsPut l behind (Put key value)
is_put l behind key value b full named same =
    let at : drop 10 l.head ≡ b.key = ap (drop 10) b.head_is in
    let one : IsPut l behind (Put b.key l.value) = record {
      fits = put_fits b.key l.value b.key_fits (omega (arith, full, b.size_fits));
      parts = ap (λ (h : List ℕ). h ++ (l.value ++ behind)) b.head_is ∙ put_spelled b.key l.value behind l.size full;
    } in
    subst (λ (v : List ℕ). IsPut l behind (Put key v)) (sym same) (subst (λ (k : List ℕ). IsPut l behind (Put k l.value)) (sym (named ∙ at)) one)

-- ---- what stands at the front

pub record Sights (l : Large) (behind : List ℕ) (n : ℕ) : Type 0 where
  pub takes : TakesPiece (all_of (Some l) behind) (Whole n)
  pub reads : IsPieceRead (all_of (Some l) behind) (Whole n)

pub sees_whole : (l : Large) (behind : List ℕ) (n : ℕ) → Gathers l behind → length l.value ≡ l.size → n ≡ length l.head + length l.value → Sights l behind n
sees_whole l behind n g full is =
    let r = Put (drop 10 l.head) l.value in
    let p = is_put l behind (drop 10 l.head) l.value g.begins full refl refl in
    let all = all_of (Some l) behind in
    let len : length (spelling r) ≡ n = omega (arith, is, ap length p.parts, length-append l.head (l.value ++ behind), length-append l.value behind, length-append (spelling r) behind) in
    record {
      takes = takes_request all (Whole n) (request_begins r all behind p.parts) (r, p.fits, len, (behind, p.parts));
      reads = (piece.Request r, omega (arith, len, ap length p.parts, length-append (spelling r) behind), again_request r all behind p.fits p.parts ∙ ap (λ (l : List ℕ). Ok (piece.Request r, l)) (sym (front_rest all (spelling r) behind p.parts) ∙ ap (λ (k : ℕ). drop k all) len));
    }

pub record SightsPart (l : Large) (behind : List ℕ) : Type 0 where
  pub takes : TakesPiece (all_of (Some l) behind) Part
  pub reads : IsPieceRead (all_of (Some l) behind) Part

first_byte : (l : Large) (behind : List ℕ) → BeginsPut l.head l.size → (rest : List ℕ) × (all_of (Some l) behind ≡ 0xC8 ∷ rest)
first_byte l behind b = (_, ap (λ (h : List ℕ). h ++ (l.value ++ behind)) b.head_is)

pub sees_part : (l : Large) (behind : List ℕ) → Gathers l behind → length l.value < l.size → SightsPart l behind
sees_part l behind g less =
    let b = g.begins in
    let pad : List ℕ = replicate (l.size - length l.value) 0 in
    let long : length pad ≡ l.size - length l.value = length-replicate (l.size - length l.value) 0 in
    let len : length (l.value ++ pad) ≡ l.size = omega (arith, less, long, length-append l.value pad) in
    let r = Put b.key (l.value ++ pad) in
    let fits : Fits r = put_fits b.key (l.value ++ pad) b.key_fits (omega (arith, len, b.size_fits)) in
    let all : all_of (Some l) behind ≡ put_head b.key l.size ++ l.value = ap (λ (d : List ℕ). l.head ++ (l.value ++ d)) (g.alone less) ∙ ap (λ (v : List ℕ). l.head ++ v) (append-nil l.value) ∙ ap (λ (h : List ℕ). h ++ l.value) b.head_is in
    let spelled : spelling r ≡ all_of (Some l) behind ++ pad =
    sym (append-nil (spelling r)) ∙ sym (put_spelled b.key (l.value ++ pad) [] l.size len)
    ∙ ap (λ (v : List ℕ). put_head b.key l.size ++ v) (append-nil (l.value ++ pad))
    ∙ sym (append_assoc (put_head b.key l.size) l.value pad)
    ∙ ap (λ (v : List ℕ). v ++ pad) (sym all) in
    let some : 0 < length pad = omega (arith, less, long) in
    let first = first_byte l behind b in
    let begins : begins_text (all_of (Some l) behind) ≡ false = ap begins_text first.1 in
    record {
      takes = takes_request (all_of (Some l) behind) Part begins (r, fits, (pad, some, spelled));
      reads = request_read (all_of (Some l) behind) Part begins (exact_request.cut r (all_of (Some l) behind) pad some (fits, sym spelled));
    }

-- a put that is read whole has all of its value
pub is_full : (l : Large) (behind : List ℕ) (n : ℕ) → Gathers l behind → IsWhole n (all_of (Some l) behind) → length l.value ≡ l.size
is_full l behind n g w = elim (eq-or-lt_of_le g.within) [
  | inl same ↦ same
  | inr less ↦ absurd (let is = w.read.2 in let part : piece_at (all_of (Some l) behind) ≡ Err not_whole.Part = (sees_part l behind g less).reads in cc)
]

pub full_of : (o : Option Large) (l : Large) (behind : List ℕ) (n : ℕ) → o ≡ Some l → MayGather o behind → IsWhole n (all_of o behind) → length l.value ≡ l.size
full_of o l behind n is g w = is_full l behind n (subst (λ (x : Option Large). MayGather x behind) is g) (subst (λ (x : Option Large). IsWhole n (all_of x behind)) is w)

-- ---- where one begins

pub begins_put : (rest sized named key behind : List ℕ) (k size : ℕ) → IsBytes rest → size_at 1048576 rest ≡ Ok (k, sized) → size_at 16777216 sized ≡ Ok (size, named) → bytes_at k named ≡ Ok (key, behind)
    → (10 + length key ≤ 2 + length rest) × BeginsPut (take (10 + length key) (0xC8 ∷ 0x10 ∷ rest)) size
begins_put rest sized named key behind k size ra a b c =
    let bytes : List ℕ = 0xC8 ∷ 0x10 ∷ rest in
    let x = (exact_size 1048576 (omega arith)).found rest k sized ra a in
    let rb : IsBytes sized = IsBytes-rest x.0 sized (subst IsBytes x.2 ra) in
    let y = (exact_size 16777216 (omega arith)).found sized size named rb b in
    let rc : IsBytes named = IsBytes-rest y.0 named (subst IsBytes y.2 rb) in
    let z = (exact_bytes k).found named key behind rc c in
    let named_is : named ≡ key ++ behind = z.2 ∙ ap (λ (t : List ℕ). t ++ behind) z.1.1 in
    let sized_is : sized ≡ to_be_bytes w32 size ++ (key ++ behind) = y.2 ∙ ap (λ (t : List ℕ). t ++ named) y.1.1 ∙ ap (λ (t : List ℕ). to_be_bytes w32 size ++ t) named_is in
    let rest_is : rest ≡ to_be_bytes w32 (length key) ++ (to_be_bytes w32 size ++ (key ++ behind)) = x.2 ∙ ap (λ (t : List ℕ). t ++ sized) (x.1.1 ∙ ap (to_be_bytes w32) (sym z.1.0)) ∙ ap (λ (t : List ℕ). to_be_bytes w32 (length key) ++ t) sized_is in
    let whole_is : bytes ≡ put_head key size ++ behind = ap (λ (t : List ℕ). 0xC8 ∷ 0x10 ∷ t) rest_is in
    let long : length (put_head key size) ≡ 10 + length key = omega arith in (
      omega (arith, ap length whole_is, length-append (put_head key size) behind, long),
      record {
        key = key;
        head_is = ap (λ (n : ℕ). take n bytes) (sym long) ∙ ap (take (length (put_head key size))) whole_is ∙ take-append_seam (put_head key size) behind;
        key_fits = omega (arith, x.1.0, z.1.0);
        size_fits = y.1.0;
      },
    )

-- what stands there of the value is gathered
pub begun : (bytes : List ℕ) (l : Large) (at : ℕ) → BeginsPut (take at bytes) l.size → l.head ≡ take at bytes → l.value ≡ drop at bytes → length l.value ≤ l.size → Gathers l [] × (bytes ≡ all_of (Some l) [])
begun bytes l at b head value less = (
  record { begins = subst (λ (h : List ℕ). BeginsPut h l.size) (sym head) b; within = less; alone = λ _. refl },
  sym ((λ i. head i ++ (value i ++ [])) ∙ ap (λ (v : List ℕ). take at bytes ++ v) (append-nil (drop at bytes)) ∙ take-append-drop at bytes),
)

-- ---- as it is taken off

pub head_long : (head : List ℕ) (size : ℕ) → BeginsPut head size → 10 ≤ length head
head_long head size b = omega (arith, ap length b.head_is)

pub large_taken : (t : Taken) (logs : Bool) (l : Large) (key behind : List ℕ) → BeginsPut l.head l.size → length l.value ≡ l.size → t.piece ≡ piece.Request (Put key l.value) → key ≡ drop 10 l.head → t.copied ≡ (if logs then Some (l.head ++ l.value) else None) → IsTaken t logs (all_of (Some l) behind) behind
large_taken t logs l key behind b full is named copied =
    let r = Put key l.value in
    let p = is_put l behind key l.value b full named refl in
    let alone = is_put l [] key l.value b full named refl in
    let own : l.head ++ l.value ≡ spelling r = ap (λ (v : List ℕ). l.head ++ v) (sym (append-nil l.value)) ∙ alone.parts ∙ append-nil (spelling r) in
    let kept : t.copied ≡ (if logs && updates r then Some (spelling r) else None) = copied ∙ ap (λ (o : List ℕ). if logs then Some o else None) own ∙ go logs (Some (spelling r)) in
    record {
      front = again_request r (all_of (Some l) behind) behind p.fits p.parts ∙ ap (λ (x : Piece). Ok (x, behind)) (sym is);
      text = spelling r;
      spells = subst (λ (x : Piece). Spells x (spelling r)) (sym is) (p.fits, refl);
      spelled = p.parts;
      may = record { fits = subst PieceFits (sym is) p.fits; copied = kept ∙ ap (copy_of logs) (sym is) };
    }
  where
    go : (b : Bool) (o : Option (List ℕ)) → (if b then o else None) ≡ (if b && true then o else None)
    go true o = refl
    go false o = refl
