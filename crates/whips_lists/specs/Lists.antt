-- Lists by place, and lists as queues.
use Rattle.std.specs.Prelude.{ℕ, zero, suc, ◌+◌, List, [], ◌∷◌, Option, Some, None}

-- the list with f of the element at place i, where there is one
abbrev pub changed_at : {A : Type 0} → ℕ → (A → A) → List A → List A
changed_at i f [] = []
changed_at zero f (x ∷ xs) = f x ∷ xs
changed_at (suc i) f (x ∷ xs) = x ∷ changed_at i f xs

-- f of each place and element, places counted from k
abbrev pub map_with_place : {A B : Type 0} → (ℕ → A → B) → ℕ → List A → List B
map_with_place f k [] = []
map_with_place f k (x ∷ xs) = f k x ∷ map_with_place f (suc k) xs

-- the sum of what f gives of each place and element, places counted from k
abbrev pub sum_with_place : {A : Type 0} → (ℕ → A → ℕ) → ℕ → List A → ℕ
sum_with_place f k [] = 0
sum_with_place f k (x ∷ xs) = f k x + sum_with_place f (suc k) xs

-- the sum of what f gives of each element
abbrev pub total : {A : Type 0} → (A → ℕ) → List A → ℕ
total f [] = 0
total f (x ∷ xs) = f x + total f xs

-- the n numbers k, k + 1, and so on
abbrev pub places_from : ℕ → ℕ → List ℕ
places_from k zero = []
places_from k (suc n) = k ∷ places_from (suc k) n

-- the oldest entry of a queue
abbrev pub front : {A : Type 0} → List A → Option A
front [] = None
front (x ∷ xs) = Some x

-- the queue without its oldest entry
abbrev pub without_front : {A : Type 0} → List A → List A
without_front [] = []
without_front (x ∷ xs) = xs
