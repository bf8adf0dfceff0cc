-- An entry of the log as its two reads show it.
use Rattle.std.proofs.Common.{◌≡◌, ℕ, ◌+◌, ◌-◌, ◌<◌, ◌≤◌, List, length, take, drop, sym, ◌∙◌, ap, subst, arith, length-take, length-drop, true, false, Bool, ◌&&◌, nat_le, nat_eq}
use Rattle.ud_log.specs.Scan.{Scanned, ScannedAll}
use Rattle.std.proofs.lemmas.List.{drop-drop, drop-take, take-take}
use Rattle.tc_base.specs.Bytes.{IsBytes}
use Rattle.ud_log.specs.Log.{number, entry_at, entries}
use Rattle.ud_log.specs.Undo.{is_data, length_of, is_formed, all_formed}
use Rattle.ud_log.proofs.Scanning.{scan_more, scan_broken, scan_done}

pub part : (k n : ℕ) (l front : List ℕ) → k + n ≤ 16 → front ≡ take 16 l → take n (drop k front) ≡ take n (drop k l)
part k n l front le is =
    let split : 16 ≡ k + (16 - k) = omega (arith, le) in
    ap (λ (x : List ℕ). take n (drop k x)) is ∙ ap (λ j. take n (drop k (take j l))) split ∙ ap (λ (x : List ℕ). take n x) (drop-take k (16 - k) l) ∙ take-take n (16 - k) (drop k l) (omega (arith, le))

module _ (log lens front : List ℕ) (at len size : ℕ) (fine : Bool) (sc : Scanned log lens at fine) (is_len : len ≡ length log) (le : at ≤ len) (is_front : front ≡ take 16 (drop at log)) (is_size : size ≡ number (take 4 (drop 12 front))) where
  size_there : size ≡ number (take 4 (drop 12 (drop at log)))
  size_there = is_size ∙ ap number (part 12 4 (drop at log) front (omega arith) is_front)

  pub no_more : len - at - 20 < size → 20 ≤ len - at → ScannedAll log lens at fine
  no_more big some = scan_done log lens at fine sc (omega (arith, big, some, length-drop at log, is_len, ap (λ k. 20 + k) size_there))

  module _ (back : List ℕ) (file place again : ℕ) (room : 20 + size ≤ len - at) (is_back : back ≡ take 4 (drop (at + 16 + size) log)) (is_file : file ≡ number (take 4 front)) (is_place : place ≡ number (take 8 (drop 4 front))) (is_again : again ≡ number back) where
    fits : 20 + size ≤ length log - at
    fits = omega (arith, room, is_len)

    file_there : number (take 4 (drop at log)) ≡ file
    file_there = sym (is_file ∙ ap number (part 0 4 (drop at log) front (omega arith) is_front))

    place_there : number (take 8 (drop 4 (drop at log))) ≡ place
    place_there = sym (is_place ∙ ap number (part 4 8 (drop at log) front (omega arith) is_front))

    back_there : take 4 (drop (16 + size) (drop at log)) ≡ back
    back_there = ap (λ (l : List ℕ). take 4 l) (drop-drop (16 + size) at log ∙ ap (λ k. drop k log) there) ∙ sym is_back
      where
        there : at + (16 + size) ≡ at + 16 + size
        there = omega arith

    again_there : number (take 4 (drop (16 + size) (drop at log))) ≡ again
    again_there = ap number back_there ∙ sym is_again

    bytes_there : length (take size (drop 16 (drop at log))) ≡ size
    bytes_there = length-take size (drop 16 (drop at log)) ∙ omega (arith, length-drop 16 (drop at log), length-drop at log, fits)

    formed_there : is_formed (entry_at size (drop at log)) ≡ (is_data file && nat_le 1 size && nat_le size 4096 && nat_eq again size)
    formed_there = λ i. is_data (file_there i) && nat_le 1 (bytes_there i) && nat_le (bytes_there i) 4096 && nat_eq (again_there i) (bytes_there i)

    le_log : at ≤ length log
    le_log = omega (arith, le, is_len)

    pub one_more : IsBytes front → IsBytes back → (is_data file && nat_le 1 size && nat_le size 4096 && nat_eq again size) ≡ true → Scanned log lens (at + 20 + size) (fine && nat_le (place + size) (length_of lens file))
    one_more bytes_front bytes_back formed =
        subst (λ (b : Bool). Scanned log lens (at + 20 + size) (fine && b)) (λ i. nat_le (place_there i + size) (length_of lens (file_there i)))
        (scan_more log lens at size fine sc le_log size_there fits (subst IsBytes is_front bytes_front) (subst IsBytes (sym back_there) bytes_back) (formed_there ∙ formed))

    pub not_formed : (is_data file && nat_le 1 size && nat_le size 4096 && nat_eq again size) ≡ false → all_formed (entries log) ≡ false
    not_formed bad = scan_broken log lens at size fine sc le_log size_there fits (formed_there ∙ bad)
