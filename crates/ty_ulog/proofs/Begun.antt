-- A front of bytes that were to come.
use Rattle.std.proofs.Common.{◌≡◌, ℕ, List, [], ◌∷◌, ◌++◌, refl, sym, ap, subst, ◌∙◌, append_assoc}
use Rattle.std.specs.Prelude.{Result, Ok, Err, OnErr}
use Rattle.std.proofs.lemmas.List.{append-nil}
use Rattle.ty_ulog.specs.Records.{Begins}

-- none of them came
pub begins_none : (o n whole : List ℕ) → n ≡ o → Begins o n whole
begins_none o n whole e = record { front = []; is_front = (whole, refl); parts = e ∙ sym (append-nil o) }

-- some of the first of them
pub begins_in : (o n first rest : List ℕ) → Begins o n first → Begins o n (first ++ rest)
begins_in o n first rest b = record {
  front = b.front;
  is_front = (b.is_front.0 ++ rest, ap (λ (l : List ℕ). l ++ rest) b.is_front.1 ∙ append_assoc b.front b.is_front.0 rest);
  parts = b.parts;
}

-- some of those behind the first
pub begins_behind : (o p n first rest : List ℕ) → p ≡ o ++ first → Begins p n rest → Begins o n (first ++ rest)
begins_behind o p n first rest e b = record {
  front = first ++ b.front;
  is_front = (b.is_front.0, ap (λ (l : List ℕ). first ++ l) b.is_front.1 ∙ sym (append_assoc first b.front b.is_front.0));
  parts = b.parts ∙ ap (λ (l : List ℕ). l ++ b.front) e ∙ append_assoc o first b.front;
}

-- whatever was refused
pub on_err : {A E : Type 0} (r : Result A E) (P : Type 0) → P → OnErr r P
on_err (Ok x) P p = tt
on_err (Err e) P p = p

pub begins_err : {A E : Type 0} (r : Result A E) (o n whole : List ℕ) → n ≡ o → OnErr r (Begins o n whole)
begins_err r o n whole e = on_err r (Begins o n whole) (begins_none o n whole e)

pub begins_as : {A E : Type 0} (r : Result A E) (o n whole other : List ℕ) → OnErr r (Begins o n whole) → whole ≡ other → OnErr r (Begins o n other)
begins_as r o n whole other b e = subst (λ (l : List ℕ). OnErr r (Begins o n l)) e b

-- none of those behind the first
pub begins_first : {A E : Type 0} (r : Result A E) (o p n first rest : List ℕ) → p ≡ o ++ first → OnErr r (n ≡ p) → OnErr r (Begins o n (first ++ rest))
begins_first (Ok x) o p n first rest e same = tt
begins_first (Err x) o p n first rest e same = begins_behind o p n first rest e (begins_none p n rest same)
