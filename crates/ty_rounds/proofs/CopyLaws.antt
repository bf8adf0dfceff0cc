-- One copy behind another.
use Rattle.std.proofs.Common.{◌≡◌, ◌⊎◌, ◌≤◌, ◌<◌, ◌+◌, inl, inr, ⊎_elim, ℕ, Bool, true, false, List, [], ◌∷◌, ◌++◌, length, map, take, drop, get_or, refl, sym, ap, subst, ◌∙◌, append_assoc, arith}
use Rattle.std.proofs.lemmas.List.{map-append, map_more, take-append-drop}
use Rattle.std.proofs.lemmas.Slice.Eq.{bytes_eq-Decides}
use Rattle.tc_base.specs.Files.{Files}
use Rattle.tc_base.specs.LabelTexts.{text_of}
use Rattle.tc_base.specs.Texts.{is_text}
use Rattle.tc_base.specs.declared.label.Label.{Label}
use Rattle.tc_io.specs.Copies.{CopyMoments, IsCopied, LeftOfCopy, MakesCopy, as_before, copied, unusable}
use Rattle.tc_io.specs.Images.{Calls, Images, ImagesSince}
use Rattle.tc_space.specs.Effects.{Copies}
use Rattle.tc_space.specs.declared.space.Space as space
use Rattle.ty_rounds.specs.Copying.{AreMade, IsAmong, OnlyCopies, RoundCopies}
use Rattle.ty_rounds.proofs.Copied.{copies_none, only_none, only_then}

-- ---- labels

same_label : (x y : List ℕ) → (x ≡ y) ⊎ (x ≡ y → ⊥)
same_label x y = go (is_text x y) refl
  where
    go : (b : Bool) → is_text x y ≡ b → (x ≡ y) ⊎ (x ≡ y → ⊥)
    go true e = inl ((bytes_eq-Decides x y).0 e)
    go false e = inr (λ is. let t = (bytes_eq-Decides x y).1 is in cc)

among_front : (l x : List ℕ) (ls : List (List ℕ)) → IsAmong l ls → IsAmong l (ls ++ x ∷ [])
among_front l x [] is = absurd is
among_front l x (m ∷ ls) (inl e) = inl e
among_front l x (m ∷ ls) (inr more) = inr (among_front l x ls more)

among_last : (l x : List ℕ) (ls : List (List ℕ)) → l ≡ x → IsAmong l (ls ++ x ∷ [])
among_last l x [] e = inl e
among_last l x (m ∷ ls) e = inr (among_last l x ls e)

among_which : (l x : List ℕ) (ls : List (List ℕ)) → IsAmong l (ls ++ x ∷ []) → IsAmong l ls ⊎ (l ≡ x)
among_which l x [] (inl e) = inr e
among_which l x [] (inr none) = absurd none
among_which l x (m ∷ ls) (inl e) = inl (inl e)
among_which l x (m ∷ ls) (inr more) = ⊎_elim (λ is. inl (inr is)) (λ e. inr e) (among_which l x ls more)

-- ---- moments

images_now : (cs : Calls) (t : ℕ) (ims : Files) → Images cs ims → ImagesSince cs t ims
images_now [] t ims is = is
images_now (c ∷ cs) t ims is = inl is

moments_then : (kept : Files) (a b c : Calls) → CopyMoments kept a b → CopyMoments kept b c → CopyMoments kept a c
moments_then kept a b c x y = record {
  later = omega (arith, x.later, y.later);
  each = λ t ims le some. ⊎_elim (λ mid. x.each t ims le mid) (λ left. go t ims le left) (y.each t ims (omega (arith, le, x.later)) some);
}
  where
    go : (t : ℕ) (ims : Files) → t ≤ length a → LeftOfCopy kept b ims → ImagesSince a t ims ⊎ LeftOfCopy kept a ims
    go t ims le (as_before is) = x.each t ims le (images_now b t ims is)
    go t ims le (unusable e) = inr (unusable e)
    go t ims le (copied is) = inr (copied is)

-- ---- one more

module _ {S : Type 0} (s : space.Ghosts S) where
  abbrev pub MakesOne : List ℕ → S → S → Type 0
  MakesOne label old new = Copies s.tells s.moment s.files_at s.left s.kept s.now s.faults s.limit s.names label old new

  pub one_copies : (b c : S) (label : List ℕ) → MakesOne label b c → s.touched b ≡ false → s.touched c ≡ false → s.sound c → OnlyCopies s b c
  one_copies b c label m untouched still sound = record {
    steady = m.steady;
    files = m.same;
    told = m.told;
    same_limit = m.same_limit;
    later = m.later;
    touched = still ∙ sym untouched;
    sound = sound;
  }

  -- so it is of the files that were kept before all
  makes_kept : (a b c : S) (label : List ℕ) → OnlyCopies s a b → MakesOne label b c → s.tells → MakesCopy (s.now a) label (s.names b) (s.names c)
  makes_kept a b c label only m t = subst (λ (kept : Files). MakesCopy kept label (s.names b) (s.names c)) (λ i g. only.files t g i) (m.makes t)

  copies_more : (a b c : S) (labels : List (List ℕ)) (label : List ℕ) → (s.tells → RoundCopies (s.now a) labels (s.names a) (s.names b)) → OnlyCopies s a b → MakesOne label b c → s.tells → RoundCopies (s.now a) (labels ++ label ∷ []) (s.names a) (s.names c)
  copies_more a b c labels label before only m t = record {
    told = made.told ∙ was.told;
    moments = λ l. ⊎_elim
        (λ e. moments_then (s.now a) _ _ _ (was.moments l) (subst (λ (k : List ℕ). CopyMoments (s.now a) ((s.names b).copies k) ((s.names c).copies k)) (sym e) made.moments))
        (λ other. subst (CopyMoments (s.now a) ((s.names a).copies l)) (sym (made.others.others l other)) (was.moments l))
        (same_label l label);
    others = λ l none. made.others.others l (λ e. none (among_last l label labels e)) ∙ was.others l (λ is. none (among_front l label labels is));
  }
    where
      was : RoundCopies (s.now a) labels (s.names a) (s.names b)
      was = before t

      made : MakesCopy (s.now a) label (s.names b) (s.names c)
      made = makes_kept a b c label only m t

  made_more : (a b c : S) (labels : List (List ℕ)) (label : List ℕ) → (s.tells → AreMade (s.now a) labels (s.names b)) → OnlyCopies s a b → MakesOne label b c → (s.tells → IsCopied (s.now b) ((s.names c).copies label)) → s.tells → AreMade (s.now a) (labels ++ label ∷ []) (s.names c)
  made_more a b c labels label before only m one t = record {
    each = λ l is. ⊎_elim (λ e. this l e) (λ other. ⊎_elim (λ was. those l other was) (λ e. absurd (other e)) (among_which l label labels is)) (same_label l label);
  }
    where
      this : (l : List ℕ) → l ≡ label → IsCopied (s.now a) ((s.names c).copies l)
      this l e = subst (λ (k : List ℕ). IsCopied (s.now a) ((s.names c).copies k)) (sym e) (subst (λ (kept : Files). IsCopied kept ((s.names c).copies label)) (λ i g. only.files t g i) (one t))

      those : (l : List ℕ) → (l ≡ label → ⊥) → IsAmong l labels → IsCopied (s.now a) ((s.names c).copies l)
      those l other was = subst (IsCopied (s.now a)) (sym ((makes_kept a b c label only m t).others.others l other)) ((before t).each l was)

  -- ---- the copies so far

  pub record CopiesFront (a b : S) (labels : List (List ℕ)) (count : ℕ) : Type 0 where
    pub copies : s.tells → RoundCopies (s.now a) labels (s.names a) (s.names b)
    pub made : s.tells → AreMade (s.now a) labels (s.names b)
    pub only : OnlyCopies s a b
    pub still : count ≡ 0 → b ≡ a

  pub none_yet : (a : S) → s.sound a → CopiesFront a a [] 0
  none_yet a sound = record {
    copies = λ t. copies_none (s.now a) [] (s.names a);
    made = λ t. record { each = λ l is. absurd is };
    only = only_none s a sound;
    still = λ e. refl;
  }

  pub one_made : (a b c : S) (labels labels' : List (List ℕ)) (label : List ℕ) (count : ℕ) → labels' ≡ labels ++ label ∷ [] → CopiesFront a b labels count → MakesOne label b c → (s.tells → IsCopied (s.now b) ((s.names c).copies label)) → s.touched b ≡ false → s.touched c ≡ false → s.sound c → CopiesFront a c labels' (count + 1)
  one_made a b c labels labels' label count more f m one untouched still sound = subst (λ (ls : List (List ℕ)). CopiesFront a c ls (count + 1)) (sym more) (record {
    copies = copies_more a b c labels label f.copies f.only m;
    made = made_more a b c labels label f.made f.only m one;
    only = only_then s a b c f.only (one_copies b c label m untouched still sound);
    still = λ e. absurd (omega (arith, e));
  })

  among_all : (l x : List ℕ) (front back : List (List ℕ)) → IsAmong l (front ++ x ∷ []) → IsAmong l (front ++ x ∷ back)
  among_all l x [] back (inl e) = inl e
  among_all l x [] back (inr none) = absurd none
  among_all l x (m ∷ front) back (inl e) = inl e
  among_all l x (m ∷ front) back (inr more) = inr (among_all l x front back more)

  -- one failed: the others behind it weren't begun
  pub one_failed : (a b c : S) (labels all back : List (List ℕ)) (label : List ℕ) (count : ℕ) → all ≡ labels ++ label ∷ back → CopiesFront a b labels count → MakesOne label b c → s.tells → RoundCopies (s.now a) all (s.names a) (s.names c)
  one_failed a b c labels all back label count parts f m t = let r = copies_more a b c labels label f.copies f.only m t in record {
    told = r.told;
    moments = r.moments;
    others = λ l none. r.others l (λ is. none (subst (IsAmong l) (sym parts) (among_all l label labels back is)));
  }

-- ---- the labels one by one

pub label_more : (ls : List Label) (i : ℕ) (l : Label) → i < length ls → l ≡ get_or ls i l → map text_of (take (i + 1) ls) ≡ map text_of (take i ls) ++ text_of l ∷ []
label_more ls i l lt is = map_more text_of ls i l lt ∙ ap (λ (z : Label). map text_of (take i ls) ++ text_of z ∷ []) (sym is)

pub labels_parted : (ls : List Label) (i : ℕ) (l : Label) → i < length ls → l ≡ get_or ls i l → map text_of ls ≡ map text_of (take i ls) ++ text_of l ∷ map text_of (drop (i + 1) ls)
labels_parted ls i l lt is =
    ap (map text_of) (sym (take-append-drop (i + 1) ls))
    ∙ map-append text_of (take (i + 1) ls) (drop (i + 1) ls)
    ∙ ap (λ (t : List (List ℕ)). t ++ map text_of (drop (i + 1) ls)) (label_more ls i l lt is)
    ∙ append_assoc (map text_of (take i ls)) (text_of l ∷ []) (map text_of (drop (i + 1) ls))

pub no_labels : (ls : List Label) (i : ℕ) → ls ≡ [] → i < length ls → ⊥
no_labels ls i none lt = let e : length ls ≡ 0 = ap length none in absurd (omega (arith, e, lt))
