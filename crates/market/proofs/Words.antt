-- Numbers of two bytes, read into a table.
--   pair_at       a pair of the library's pairs of bytes
--   Read          each of the 8 entries is a number of the body
--   read-back     written again, the first of them are the body
--   read-short    they are numbers of two bytes
--   written       a trader read from the two halves of a body
use Rattle.std.proofs.Common.{◌≡◌, ℕ, zero, suc, ◌+◌, ◌*◌, ◌/◌, ◌<◌, ◌≤◌, true, List, [], ◌∷◌, ◌++◌, length, get_or, take, drop, sym, refl, ap, ◌∙◌, subst, add-one, arith}
use Rattle.std.specs.List.{flat_map}
use Rattle.std.proofs.lemmas.List.{take_more, take_all, flat_map_more, append_assoc, take-append-drop, get_or-drop, get_or-take, length-drop, length-take-le}
use Rattle.std.specs.Simd.{first_chunks}
use Rattle.std.proofs.lemmas.Bool.{and_from, lt-ltb}
use Rattle.layout.specs.Layout.{two}
use Rattle.layout.proofs.Steps.{two_bytes}
use Rattle.labelling.specs.Bytes.{Bytes, take-bytes}
use Rattle.market.specs.Rows.{short}
use Rattle.market.specs.Adding.{Written}
use Rattle.market.specs.declared.rows.Trader.{Trader}

-- Pair k of n pairs of bytes.
pub pair_at : (body : List ℕ) (pairs : List (List ℕ)) (n k : ℕ) → pairs ≡ first_chunks 2 n body → k < n → n * 2 ≤ length body
    → get_or pairs k [] ≡ get_or body (2 * k) 0 ∷ get_or body (2 * k + 1) 0 ∷ []
pair_at body pairs n k is low long = ap (λ ps. get_or ps k []) is ∙ go body n k low long
  where
    go : (body : List ℕ) (n k : ℕ) → k < n → n * 2 ≤ length body → get_or (first_chunks 2 n body) k [] ≡ get_or body (2 * k) 0 ∷ get_or body (2 * k + 1) 0 ∷ []
    go body zero k low long = absurd (omega arith)
    go [] (suc n) k low long = absurd (omega arith)
    go (a ∷ []) (suc n) k low long = absurd (omega arith)
    go (a ∷ (b ∷ bs)) (suc n) zero low long = refl
    go (a ∷ (b ∷ bs)) (suc n) (suc k) low long =
        let first : 2 * suc k ≡ suc (suc (2 * k)) = omega arith in
        let second : 2 * suc k + 1 ≡ suc (suc (2 * k + 1)) = omega arith in
        rw (second, first) (go bs n k (omega arith) (omega arith))

-- Each entry is a number of the body.
abbrev pub Read : List ℕ → List ℕ → Type 0
Read of body = (k : ℕ) → k < 8 → 2 * k + 1 < length body → get_or of k 0 ≡ 256 * get_or body (2 * k) 0 + get_or body (2 * k + 1) 0

module _ (of body : List ℕ) (room : length of ≡ 8) (bytes : Bytes body) (read : Read of body) where
  -- The bytes of the numbers so far, and of one more.
  words_more : (k : ℕ) → k < 8 → 2 * k + 1 < length body → flat_map two (take k of) ≡ take (2 * k) body
      → flat_map two (take (k + 1) of) ≡ take (2 * (k + 1)) body
  words_more k few in_body so_far =
      let v = get_or of k 0 in
      let high = get_or body (2 * k) 0 in
      let low = get_or body (2 * k + 1) 0 in
      let count : 2 * (k + 1) ≡ (2 * k + 1) + 1 = omega arith in
      let written : two v ≡ high ∷ low ∷ [] = ap two (read k few in_body) ∙ two_bytes high low (omega (arith, bytes (2 * k + 1))) in
      ap (flat_map two) (take_more of k 0 (omega (arith, room)))
      ∙ sym (flat_map_more two [] (take k of) v)
      ∙ ap (λ b. b ++ two v) so_far
      ∙ ap (λ b. take (2 * k) body ++ b) written
      ∙ sym (append_assoc (take (2 * k) body) (high ∷ []) (low ∷ []))
      ∙ ap (λ b. b ++ low ∷ []) (sym (take_more body (2 * k) 0 (omega arith)))
      ∙ sym (take_more body (2 * k + 1) 0 in_body)
      ∙ ap (λ n. take n body) (sym count)

  words : (k : ℕ) → k ≤ 8 → 2 * k ≤ length body → flat_map two (take k of) ≡ take (2 * k) body
  words zero few long = refl
  words (suc k) few long =
      subst (λ n. flat_map two (take n of) ≡ take (2 * n) body) (add-one k)
      (words_more k (omega arith) (omega arith) (words k (omega arith) (omega arith)))

  read-back : (g : ℕ) → g ≤ 8 → length body ≡ 2 * g → flat_map two (take g of) ≡ body
  read-back g few long = words g few (omega arith) ∙ take_all (2 * g) body (omega arith)

  read-short : (g : ℕ) → g ≤ 8 → length body ≡ 2 * g → short (take g of) ≡ true
  read-short g few long = go g of (λ k low. omega (arith, read k (omega arith) (omega arith), bytes (2 * k), bytes (2 * k + 1)))
    where
      go : (n : ℕ) (ns : List ℕ) → ((k : ℕ) → k < n → get_or ns k 0 < 65536) → short (take n ns) ≡ true
      go zero ns all = refl
      go (suc n) [] all = refl
      go (suc n) (x ∷ ns) all = and_from _ _ (lt-ltb x 65536 (all 0 (omega arith))) (go n ns (λ k low. all (suc k) (omega arith)))

-- Each entry is the number of a pair.
abbrev pub Paired : List ℕ → List (List ℕ) → Type 0
Paired of pairs = (k : ℕ) → k < 8 → get_or of k 0 ≡ 256 * get_or (get_or pairs k []) 0 0 + get_or (get_or pairs k []) 1 0

module _ (body : List ℕ) (pairs owned weighed : List (List ℕ)) (g : ℕ) (few : g ≤ 8) (long : length body ≡ 4 * g) (bytes : Bytes body)
    (are : pairs ≡ first_chunks 2 (length body / 2) body) (front-pairs : owned ≡ take g pairs) (back-pairs : weighed ≡ drop g pairs) (t : Trader) where
  abbrev first : List ℕ
  first = take (2 * g) body

  abbrev second : List ℕ
  second = drop (2 * g) body

  front-read : Paired t.owns owned → Read t.owns first
  front-read read k small inside =
      let low : k < g = omega (arith, length-take-le (2 * g) body (omega arith)) in
      let pair : get_or owned k [] ≡ get_or body (2 * k) 0 ∷ get_or body (2 * k + 1) 0 ∷ []
      = ap (λ ps. get_or ps k []) front-pairs ∙ get_or-take g pairs k [] low ∙ pair_at body pairs (length body / 2) k are (omega arith) (omega arith) in
      read k small ∙ ap (λ p. 256 * get_or p 0 0 + get_or p 1 0) pair
      ∙ ap (λ h. 256 * h + get_or body (2 * k + 1) 0) (sym (get_or-take (2 * g) body (2 * k) 0 (omega arith)))
      ∙ ap (λ l. 256 * get_or first (2 * k) 0 + l) (sym (get_or-take (2 * g) body (2 * k + 1) 0 (omega arith)))

  back-read : Paired t.weighs weighed → Read t.weighs second
  back-read read k small inside =
      let low : k < g = omega (arith, length-drop (2 * g) body) in
      let high-place : 2 * (g + k) ≡ 2 * g + 2 * k = omega arith in
      let low-place : 2 * (g + k) + 1 ≡ 2 * g + (2 * k + 1) = omega arith in
      let pair : get_or weighed k [] ≡ get_or body (2 * (g + k)) 0 ∷ get_or body (2 * (g + k) + 1) 0 ∷ []
      = ap (λ ps. get_or ps k []) back-pairs ∙ get_or-drop g pairs k [] ∙ pair_at body pairs (length body / 2) (g + k) are (omega arith) (omega arith) in
      read k small ∙ ap (λ p. 256 * get_or p 0 0 + get_or p 1 0) pair
      ∙ ap (λ h. 256 * h + get_or body (2 * (g + k) + 1) 0) (ap (λ i. get_or body i 0) high-place ∙ sym (get_or-drop (2 * g) body (2 * k) 0))
      ∙ ap (λ l. 256 * get_or second (2 * k) 0 + l) (ap (λ i. get_or body i 0) low-place ∙ sym (get_or-drop (2 * g) body (2 * k + 1) 0))

  pub written : (length t.owns ≡ 8) × Paired t.owns owned → (length t.weighs ≡ 8) × Paired t.weighs weighed → Written body g t
  written own-pairs weigh-pairs =
      let owns = front-read own-pairs.1 in
      let weighs = back-read weigh-pairs.1 in
      let first-bytes : Bytes first = take-bytes (2 * g) body bytes in
      let second-bytes : Bytes second = λ k. rw get_or-drop (bytes (2 * g + k)) in
      let first-long : length first ≡ 2 * g = length-take-le (2 * g) body (omega arith) in
      let second-long : length second ≡ 2 * g = length-drop (2 * g) body ∙ omega arith in
      record {
        owns_room = own-pairs.0;
        weighs_room = weigh-pairs.0;
        bytes =
            sym (take-append-drop (2 * g) body)
            ∙ ap (λ x. x ++ second) (sym (read-back t.owns first own-pairs.0 first-bytes owns g few first-long))
            ∙ ap (λ y. flat_map two (take g t.owns) ++ y) (sym (read-back t.weighs second weigh-pairs.0 second-bytes weighs g few second-long));
        owns_short = read-short t.owns first own-pairs.0 first-bytes owns g few first-long;
        weighs_short = read-short t.weighs second weigh-pairs.0 second-bytes weighs g few second-long;
      }
