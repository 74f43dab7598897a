-- Known bytes over several reads, and over several writes.
use Rattle.std.proofs.Common.{◌≡◌, ℕ, ◌+◌, ◌-◌, ◌≤◌, List, [], ◌++◌, length, take, drop, Option, None, Some, refl, append_assoc, take-add, length-append, length-drop, length-take, arith, min, ◌<◌}
use Rattle.std.proofs.Math.ListN.{drop_of_length-le}
use Rattle.std.proofs.Math.Seq.{take-append_seam}
use Rattle.std.proofs.lemmas.List.{take_all, append-nil, drop-drop, take-append-drop}
use Rattle.std.specs.Io.KnownBytes.{Consumes, Appends, Keeps}
use Rattle.whips_io.specs.Bytes.{ConsumesAtMost}

-- one read after another
pub Consumes-append : (a b c : Option (List ℕ)) (xs ys : List ℕ) → Consumes a b xs → Consumes b c ys → Consumes a c (xs ++ ys)
Consumes-append None b c xs ys p q = tt
Consumes-append (Some xs0) None c xs ys p q = absurd p
Consumes-append (Some xs0) (Some bs) None xs ys p q = absurd q
Consumes-append (Some xs0) (Some bs) (Some cs) xs ys p q = rw (p, q) (rw append_assoc refl)

-- no byte was taken before the first read
pub Consumes-none : (a : Option (List ℕ)) → Consumes a a []
Consumes-none None = tt
Consumes-none (Some xs0) = refl

-- what keeps the known bytes takes none
pub Consumes-Keeps : (a b : Option (List ℕ)) → Keeps a b → Consumes a b []
Consumes-Keeps None b p = tt
Consumes-Keeps (Some xs0) None p = absurd p
Consumes-Keeps (Some xs0) (Some bs) p = rw p refl

-- a few bytes more
pub ConsumesAtMost-more : (a b c : Option (List ℕ)) (xs : List ℕ) (m n : ℕ) → Consumes a b xs → ConsumesAtMost m b c → length xs + m ≤ n → ConsumesAtMost n a c
ConsumesAtMost-more a b c xs m n p q fits =
    (xs ++ q.0, omega (arith, length-append xs q.0, q.1, fits), Consumes-append a b c xs q.0 p q.2)

-- no byte was written before the first write
pub Appends-none : (a : Option (List ℕ)) → Appends a a []
Appends-none None = tt
Appends-none (Some xs0) = rw append-nil refl

-- one write after another
pub Appends-append : (a b c : Option (List ℕ)) (xs ys : List ℕ) → Appends a b xs → Appends b c ys → Appends a c (xs ++ ys)
Appends-append None b c xs ys p q = tt
Appends-append (Some xs0) None c xs ys p q = absurd p
Appends-append (Some xs0) (Some bs) None xs ys p q = absurd q
Appends-append (Some xs0) (Some bs) (Some cs) xs ys p q = rw (q, p) (rw append_assoc refl)

-- a write that keeps what was written leaves the front that was written before
pub Appends-Keeps : (a b c : Option (List ℕ)) (xs : List ℕ) → Appends a b xs → Keeps b c → Appends a c xs
Appends-Keeps None b c xs p q = tt
Appends-Keeps (Some xs0) None c xs p q = absurd p
Appends-Keeps (Some xs0) (Some bs) None xs p q = absurd q
Appends-Keeps (Some xs0) (Some bs) (Some cs) xs p q = rw (q, p) refl

-- the next piece of the rest of the bytes
pub Appends-rest : (bytes : List ℕ) (at n : ℕ) (a b c : Option (List ℕ)) → Appends a b (take at bytes) → Appends b c (take n (take (length bytes - at) (drop at bytes))) → Appends a c (take (at + n) bytes)
Appends-rest bytes at n a b c p q =
    rw (take-add at n bytes) (Appends-append a b c (take at bytes) (take n (drop at bytes)) p (rw whole at q))
  where
    whole : take (length bytes - at) (drop at bytes) ≡ drop at bytes
    whole = take_all _ _ (simp length-drop (omega arith))

-- what a source in memory gives, and what it has left
pub read_gives : (bytes left piece rest : List ℕ) (at n : ℕ) → left ≡ drop at bytes → length piece ≡ n → piece ≡ take n (drop at bytes) → left ≡ take n (piece ++ rest) ++ drop (at + n) bytes
read_gives bytes left piece rest at n is_left size is_piece =
    rw (← size, take-append_seam, size, is_piece, ← drop-drop n at bytes, take-append-drop n (drop at bytes)) is_left

-- a source in memory gives no byte only at its end, where there was room
pub read_ends : (bytes buf piece : List ℕ) (at n max : ℕ) → n ≡ min (length buf) (min max (length bytes - at)) → 0 < max → length piece ≡ length (take n buf) → n ≡ 0 → 0 < length (piece ++ drop n buf) → drop (at + n) bytes ≡ []
read_ends bytes buf piece at n max is_min some size none room =
    drop_of_length-le bytes (omega (arith, length-append piece (drop n buf), length-take n buf, length-drop n buf))
