-- What stops leave, by the image of the log, and by images.
use Rattle.std.proofs.Common.{◌≡◌, ◌⊎◌, inl, inr, ⊎_elim, ℕ, List, [], ◌∷◌, length, Option, Some, None, refl, sym, ◌∙◌, ap, arith}
use Rattle.std.proofs.lemmas.Bool.{cases_eq}
use Rattle.tc_base.specs.Files.{Files}
use Rattle.tc_io.specs.Images.{lost, Calls, Images, ImagesSince}
use Rattle.ud_log.specs.Undo.{recovered}
use Rattle.ud_state.specs.Again.{AtEach}
use Rattle.ud_state.specs.Recovery.{StaysSettled}
use Rattle.ud_state.specs.Since.{AllLeft, Leaves, LeftNow, LeftSince, Since, here, more}
use Rattle.ud_state.specs.State.{IsSettled}
use Rattle.ud_state.proofs.Taken.{lost_image}

-- ---- equalities that aren't refuted hold

same_head : (x y : ℕ) (a b : List ℕ) → ◌≡◌ {A = List ℕ} (x ∷ a) (y ∷ b) → x ≡ y
same_head x y a b is = cc

same_tail : (x y : ℕ) (a b : List ℕ) → ◌≡◌ {A = List ℕ} (x ∷ a) (y ∷ b) → a ≡ b
same_tail x y a b is = cc

same_or_apart : (a b : List ℕ) → (a ≡ b) ⊎ (a ≡ b → ⊥)
same_or_apart [] [] = inl refl
same_or_apart [] (y ∷ b) = inr (λ is. cc)
same_or_apart (x ∷ a) [] = inr (λ is. cc)
same_or_apart (x ∷ a) (y ∷ b) = ⊎_elim
    (λ head. ⊎_elim (λ tail. inl (λ i. head i ∷ tail i)) (λ apart. inr (λ is. apart (same_tail x y a b is))) (same_or_apart a b))
    (λ apart. inr (λ is. apart (same_head x y a b is)))
    (cases_eq x y)

stable_files : (a b : Files) → ((a ≡ b → ⊥) → ⊥) → a ≡ b
stable_files a b not_apart = λ i f. ⊎_elim (λ same. same) (λ apart. absurd (not_apart (λ is. apart (ap (λ (fs : Files). fs f) is)))) (same_or_apart (a f) (b f)) i

some_files : (a b : Files) → Some a ≡ Some b → a ≡ b
some_files a b is = cc

stable : (v w : Option Files) → ((v ≡ w → ⊥) → ⊥) → v ≡ w
stable None None not_apart = refl
stable None (Some b) not_apart = absurd (not_apart (λ is. cc))
stable (Some a) None not_apart = absurd (not_apart (λ is. cc))
stable (Some a) (Some b) not_apart = ap (λ (fs : Files). Some fs) (stable_files a b (λ apart. not_apart (λ is. apart (some_files a b is))))

-- ---- at one moment

-- all images are recovered to the same
pub all_left : (w : Option Files) (cs : Calls) → Leaves (λ o. o ≡ w) cs → AllLeft (λ o. o ≡ w) cs
all_left w cs all o left = left.is w (λ ims are log. all ims are)

-- a call that failed leaves no more
pub lost_left : (P : Option Files → Type 0) (cs : Calls) (f : ℕ) (r : List ℕ) → AllLeft P cs → AllLeft P ((f, lost r) ∷ cs)
lost_left P cs f r all o left = all o (record {
  images = left.images;
  some = λ g. lost_image cs f g r (left.images g) (left.some g);
  is = λ w agree. left.is w (λ ims are log. agree ims (λ g. lost_image cs f g r (ims g) (are g)) log);
})

image_left : (cs : Calls) (ims : Files) → Images cs ims → LeftNow cs (recovered ims)
image_left cs ims are = record { images = ims; some = are; is = λ w agree. agree ims are refl }

left_settled : (cs : Calls) → (LeftNow cs None → ⊥) → IsSettled cs
left_settled cs never = record {
  same = λ ims jms are bre log. stable (recovered ims) (recovered jms) (λ apart. never (record {
    images = ims;
    some = are;
    is = λ w agree. absurd (apart (agree ims are refl ∙ sym (agree jms bre (sym log))));
  }));
  whole = λ ims are none. never (record { images = ims; some = are; is = λ w agree. sym none ∙ agree ims are refl });
}

settled_left : (cs : Calls) (o : Option Files) → IsSettled cs → (left : LeftNow cs o) → o ≡ recovered left.images
settled_left cs o settled left = left.is (recovered left.images) (λ ims are log. settled.same ims left.images are left.some log)

-- ---- since a moment

pub settled_each : (cs : Calls) (t : ℕ) → (LeftSince cs t None → ⊥) → AtEach IsSettled cs t
settled_each [] t never = left_settled [] never
settled_each (c ∷ cs) t never = (left_settled (c ∷ cs) (λ left. never (inl left)), λ le. settled_each cs t (λ left. never (inr (le, left))))

pub images_left : (cs : Calls) (t : ℕ) (ims : Files) → ImagesSince cs t ims → LeftSince cs t (recovered ims)
images_left [] t ims some = image_left [] ims some
images_left (c ∷ cs) t ims some = ⊎_elim (λ are. inl (image_left (c ∷ cs) ims are)) (λ earlier. inr (earlier.0, images_left cs t ims earlier.1)) some

pub left_now : (cs : Calls) (o : Option Files) → LeftSince cs (length cs) o → LeftNow cs o
left_now [] o left = left
left_now (c ∷ cs) o left = ⊎_elim (λ at_once. at_once) (λ earlier. absurd (omega (arith, earlier.0))) left

pub left_leads : (old new : Calls) (o : Option Files) → IsSettled old → Since (StaysSettled old) old new → LeftSince new (length old) o → (ims : Files) × Images old ims × (o ≡ recovered ims)
left_leads old _ o settled here left = let now_left = left_now old o left in (now_left.images, now_left.some, settled_left old o settled now_left)
left_leads old _ o settled (more c cs past p) left = ⊎_elim
    (λ at_once.
    let from = p.leads.from at_once.images at_once.some in
    (from.0, from.1, settled_left (c ∷ cs) o p.settled at_once ∙ from.2))
    (λ earlier. left_leads old cs o settled past earlier.1)
    left
