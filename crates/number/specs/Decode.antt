-- A number on a sheet: groups of seven bits, lowest group first; a byte of 128 or more says that another follows.
--     Decoded      what stands at the start of a list of bytes: a value and how many bytes it has, or a refusal's number
--     decode       one number from the start of a list of bytes
use Rattle.std.specs.Prelude.{ℕ, zero, suc, ◌+◌, ◌*◌, ◌%◌, List, [], ◌∷◌, ltb, eqb}
use Rattle.basics.specs.Choice.{pick}

pub data Decoded : Type 0 where
  value : ℕ → ℕ → Decoded
  refused : ℕ → Decoded

-- a byte of 128 or more, with the groups that follow it
unfoldable pub under : ℕ → Decoded → Decoded
under b (value v n) = value (b % 128 + 128 * v) (n + 1)
under b (refused e) = refused e

-- the groups after the first, where so many more may follow the next one: 1 where the bytes end;
-- 2 where the last byte is 0 (not the shortest form), or the fifth is above 15 (too large)
unfoldable pub more : ℕ → List ℕ → Decoded
more zero [] = refused 1
more zero (b ∷ s) = pick (eqb b 0) (refused 2) (pick (ltb b 16) (value b 1) (refused 2))
more (suc k) [] = refused 1
more (suc k) (b ∷ s) =
    pick (eqb b 0) (refused 2) (pick (ltb b 128) (value b 1) (under b (more k s)))

-- one number: a byte below 128 alone, or up to four more groups after it
unfoldable pub decode : List ℕ → Decoded
decode [] = refused 1
decode (b ∷ s) = pick (ltb b 128) (value b 1) (under b (more 3 s))
