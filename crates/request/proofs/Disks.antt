-- Disks to a number of copies and back.
--     has_plus, lt_up, plus_lt, put_sum      a disk above all others put in adds its power of two
--     mask_append, mask_disks, mask_all      the number of a number's disks is that number
--     disks_same                             numbers with the same disks
--     disks_plus, disks_mask                 the disks of the number of a rising list are that list
--     mask_under                             the number of a rising list has no bit above its last
--     disks_rise                             the disks of a number rise
use mathlib.Core.Path.{◌≡◌, sym, ap, ◌∙◌, refl, ap₂, subst}
use mathlib.Core.Bool.{Bool, ◌||◌, or-false, true}
use Prim.Native.Nat.{ℕ, zero, suc, ◌+◌, ◌/◌, ◌%◌, ◌^◌, ◌≤◌, ◌<◌, ◌*◌}
use native.Mathlib.Nat.{pow-suc, mod-lt, mod-one, mod-eq_of_lt, zero-add}
use native.Mathlib.Omega.{arith}
use lib.Dec.{eqb, eqb-zero-suc, eqb-suc-suc}
use lib.Arith.{lt-one}
use lib.Pow.{pow_mono, mod-pow-add}
use Rattle.mask.specs.Has.{has}
use Rattle.mask.proofs.Has.{has_first, has_half, has_zero, has_ext}
use Rattle.mask.proofs.Bits.{has_pow}
use Rattle.mask.proofs.Listed.{disks_up}
use mathlib.Core.List.{List, [], ◌∷◌, ◌++◌, append_assoc, append-nil}
use borrow.Author.Tests.{eq-eqb, ne_eqb, eqb-true, eqb-false}
use Rattle.basics.specs.Choice.{pick}
use Rattle.basics.proofs.Choice.{pick_true, pick_false}
use Rattle.basics.proofs.Tests.{by_cases}
use Rattle.basics.specs.Lists.{All, Rises}
use Rattle.request.specs.Disks.{mask_of}
use Rattle.mask.specs.Disks.{disks_below, disks_of}
use Rattle.basics.specs.Limits.{disks_most}

pub has_plus : (d m e : ℕ) → m < 2 ^ d → has (m + 2 ^ d) e ≡ (eqb e d || has m e)
has_plus zero m e h =
    let z : m ≡ 0 = lt-one h in
    ap (λ (x : ℕ). has (x + 1) e) z ∙ has_pow 0 e ∙ sym (or-false (eqb e 0))
    ∙ ap (λ (t : Bool). eqb e 0 || t) (sym (has_zero e) ∙ ap (λ (x : ℕ). has x e) (sym z))
has_plus (suc d) m zero h =
    let p = pow-suc 2 d in
    has_first (m + 2 ^ suc d) ∙ ap (λ (x : ℕ). eqb x 1) {x = (m + 2 ^ suc d) % 2} {y = m % 2} (omega arith) ∙ sym (has_first m)
    ∙ ap (λ (t : Bool). t || has m 0) (sym (eqb-zero-suc d))
has_plus (suc d) m (suc e) h =
    let p = pow-suc 2 d in
    has_half (m + 2 ^ suc d) e
    ∙ ap (λ (x : ℕ). has x e) {x = (m + 2 ^ suc d) / 2} {y = m / 2 + 2 ^ d} (omega arith)
    ∙ has_plus d (m / 2) e (omega arith)
    ∙ ap (λ (t : Bool). t || has (m / 2) e) (sym (eqb-suc-suc e d))
    ∙ ap (λ (t : Bool). eqb (suc e) (suc d) || t) (sym (has_half m e))

-- a number of few bits is one of more bits
pub lt_up : {m floor d : ℕ} → m < 2 ^ floor → floor ≤ d → m < 2 ^ d
lt_up {m} {floor} {d} h l = let g : 2 ^ floor ≤ 2 ^ d = pow_mono l in omega arith

-- below the next power of two
pub plus_lt : (d m : ℕ) → m < 2 ^ d → m + 2 ^ d < 2 ^ (d + 1)
plus_lt d m h = let p = pow-suc 2 d in
    let e : 2 ^ (d + 1) ≡ 2 ^ suc d = ap (λ (k : ℕ). 2 ^ k) {x = d + 1} {y = suc d} (omega arith) in omega arith

pub put_sum : (m d r : ℕ) → d < disks_most → m < 2 ^ d → r < 2 ^ 64 → ((e : ℕ) → has r e ≡ (eqb e d || has m e)) → r ≡ m + 2 ^ d
put_sum m d r l h b a =
    let g : 2 ^ (d + 1) ≤ 2 ^ 64 = pow_mono {i = d + 1} {j = disks_most} (omega arith) in
    has_ext disks_most r (m + 2 ^ d) b (omega (arith, plus_lt d m h)) (λ e k. a e ∙ sym (has_plus d m e h))

-- ---- the number of a number's disks

pub mask_append : (xs ys : List ℕ) → mask_of (xs ++ ys) ≡ mask_of xs + mask_of ys
unfolding mask_of
mask_append [] ys = omega arith
mask_append (d ∷ xs) ys = omega (arith, mask_append xs ys)

-- the bit at a place
bit_at : (m d : ℕ) → mask_of (pick (has m d) (d ∷ []) []) ≡ (m / 2 ^ d % 2) * 2 ^ d
unfolding has mask_of
bit_at m d =
    by_cases (eqb (m / 2 ^ d % 2) 1)
    (λ t.
    let one : m / 2 ^ d % 2 ≡ 1 = eqb-true (m / 2 ^ d % 2) 1 t in
    ap mask_of (pick_true (d ∷ []) [] t) ∙ (omega (arith, ap (λ (k : ℕ). k * 2 ^ d) one)))
    (λ f.
    let none : m / 2 ^ d % 2 ≡ 0 = small (m / 2 ^ d % 2) (mod-lt (m / 2 ^ d) (omega arith)) (eqb-false (m / 2 ^ d % 2) 1 f) in
    ap mask_of (pick_false (d ∷ []) [] f) ∙ (omega (arith, ap (λ (k : ℕ). k * 2 ^ d) none)))
  where
    small : (x : ℕ) → x < 2 → (x ≡ 1 → ⊥) → x ≡ 0
    small x h n = omega (arith, n)

pub mask_disks : (n m : ℕ) → mask_of (disks_below n m) ≡ m % 2 ^ n
unfolding disks_below mask_of
mask_disks zero m = sym (mod-one m)
mask_disks (suc d) m =
    mask_append (disks_below d m) (pick (has m d) (d ∷ []) [])
    ∙ (omega (arith, mask_disks d m, bit_at m d, mod-pow-add m 1 d, ap (λ (k : ℕ). m % 2 ^ k) {x = 1 + d} {y = suc d} (omega arith)))

pub mask_all : (m : ℕ) → m < 2 ^ 64 → mask_of (disks_of m) ≡ m
unfolding disks_of
mask_all m h = mask_disks disks_most m ∙ mod-eq_of_lt h

-- ---- the disks of a rising list's number

pub disks_same : (n m m' : ℕ) → ((e : ℕ) → e < n → has m e ≡ has m' e) → disks_below n m ≡ disks_below n m'
unfolding disks_below
disks_same zero m m' h = refl
disks_same (suc d) m m' h =
    ap₂ (λ (x : List ℕ) (b : Bool). x ++ pick b (d ∷ []) []) (disks_same d m m' (λ e l. h e (omega arith))) (h d (omega arith))

-- one disk above all others
disks_top : (floor low v : ℕ) → low < 2 ^ floor → floor ≤ v → disks_below (v + 1) (low + 2 ^ v) ≡ disks_below floor low ++ (v ∷ [])
unfolding disks_below
disks_top floor low v h l =
    let g : 2 ^ floor ≤ 2 ^ v = pow_mono l in
    let under : low < 2 ^ v = omega arith in
    let top : has (low + 2 ^ v) v ≡ true = has_plus v low v under ∙ ap (λ (b : Bool). b || has low v) (eq-eqb v v refl) in
    ap (λ (k : ℕ). disks_below k (low + 2 ^ v)) {x = v + 1} {y = suc v} (omega arith)
    ∙ ap (λ (x : List ℕ). disks_below v (low + 2 ^ v) ++ x) (pick_true (v ∷ []) [] top)
    ∙ ap (λ (x : List ℕ). x ++ (v ∷ []))
    (disks_same v (low + 2 ^ v) low (λ e k. has_plus v low e under ∙ ap (λ (b : Bool). b || has low e) (ne_eqb e v (λ q. omega arith)))
    ∙ disks_up floor v low h l)

pub disks_plus : (n floor high low : ℕ) (ds : List ℕ) → Rises floor high ds → high < n → floor ≤ n → low < 2 ^ floor
    → disks_below n (low + mask_of ds) ≡ disks_below floor low ++ ds
unfolding mask_of Rises
disks_plus n floor high low [] r b l h =
    ap (disks_below n) {x = low + 0} {y = low} (omega arith) ∙ disks_up floor n low h l ∙ sym (append-nil (disks_below floor low))
disks_plus n floor high low (v ∷ vs) r b l h =
    let g : 2 ^ floor ≤ 2 ^ v = pow_mono r.0 in
    ap (disks_below n) {x = low + (2 ^ v + mask_of vs)} {y = low + 2 ^ v + mask_of vs} (omega arith)
    ∙ disks_plus n (v + 1) high (low + 2 ^ v) vs r.2 b (omega (arith, r.1)) (plus_lt v low (omega arith))
    ∙ ap (λ (x : List ℕ). x ++ vs) (disks_top floor low v h r.0)
    ∙ append_assoc (disks_below floor low) (v ∷ []) vs

none_below : (ds : List ℕ) → disks_below 0 0 ++ ds ≡ ds
unfolding disks_below
none_below ds = refl

pub disks_mask : (high : ℕ) (ds : List ℕ) → high < disks_most → Rises 0 high ds → disks_of (mask_of ds) ≡ ds
unfolding disks_of
disks_mask high ds b r = ap (disks_below disks_most) (sym (zero-add (mask_of ds)))
    ∙ disks_plus disks_most 0 high 0 ds r (omega arith) (omega arith) (omega arith) ∙ none_below ds

pub mask_under : (floor high low : ℕ) (ds : List ℕ) → Rises floor high ds → floor ≤ high + 1 → low < 2 ^ floor
    → low + mask_of ds < 2 ^ (high + 1)
unfolding mask_of Rises
mask_under floor high low [] r l h = let g : 2 ^ floor ≤ 2 ^ (high + 1) = pow_mono l in omega arith
mask_under floor high low (v ∷ vs) r l h =
    let g : 2 ^ floor ≤ 2 ^ v = pow_mono r.0 in
    let k : low + 2 ^ v + mask_of vs < 2 ^ (high + 1) =
    mask_under (v + 1) high (low + 2 ^ v) vs r.2 (omega (arith, r.1)) (plus_lt v low (omega arith)) in
    omega arith

-- ---- the disks of a number rise

-- the rest of a list that lies under v
rises_snoc : (floor high v : ℕ) (xs : List ℕ) → Rises floor high xs → All (λ x. x < v) xs → floor ≤ v → v ≤ high
    → Rises floor high (xs ++ (v ∷ []))
unfolding Rises All
rises_snoc floor high v [] r a l h = (l, h, tt)
rises_snoc floor high v (x ∷ xs) r a l h = (r.0, r.1, rises_snoc (x + 1) high v xs r.2 a.1 (omega (arith, a.0)) h)

under_snoc : (n v : ℕ) (xs : List ℕ) → All (λ x. x < v) xs → v < n → All (λ x. x < n) (xs ++ (v ∷ []))
unfolding All
under_snoc n v [] a h = (h, tt)
under_snoc n v (x ∷ xs) a h = (omega (arith, a.0), under_snoc n v xs a.1 h)

under_more : (n v : ℕ) (xs : List ℕ) → All (λ x. x < v) xs → v ≤ n → All (λ x. x < n) xs
unfolding All
under_more n v [] a h = tt
under_more n v (x ∷ xs) a h = (omega (arith, a.0), under_more n v xs a.1 h)

disks_rising : (n high m : ℕ) → n ≤ high + 1 → Rises 0 high (disks_below n m) × All (λ x. x < n) (disks_below n m)
unfolding disks_below Rises All
disks_rising zero high m h = (tt, tt)
disks_rising (suc d) high m h =
    let i : Rises 0 high (disks_below d m) × All (λ x. x < d) (disks_below d m) = disks_rising d high m (omega arith) in
    by_cases (has m d)
    (λ t. subst (λ (x : List ℕ). Rises 0 high (disks_below d m ++ x) × All (λ x. x < suc d) (disks_below d m ++ x))
    (sym (pick_true (d ∷ []) [] t)) (
      rises_snoc 0 high d (disks_below d m) i.0 i.1 (omega arith) (omega arith),
      under_snoc (suc d) d (disks_below d m) i.1 (omega arith),
    ))
    (λ f. subst (λ (x : List ℕ). Rises 0 high x × All (λ x. x < suc d) x) (sym (append-nil (disks_below d m))
    ∙ ap (λ (x : List ℕ). disks_below d m ++ x) (sym (pick_false (d ∷ []) [] f)))
    (i.0, under_more (suc d) d (disks_below d m) i.1 (omega arith)))

pub disks_rise : (high m : ℕ) → high < disks_most → m < 2 ^ (high + 1) → Rises 0 high (disks_of m)
unfolding disks_of
disks_rise high m l h =
    subst (Rises 0 high) (sym (disks_up (high + 1) disks_most m h (omega arith))) (disks_rising (high + 1) high m (omega arith)).0
