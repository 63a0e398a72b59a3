-- The factors (01, 'The charts'): "eight rows of twenty-four (A2, D3, D4, D2, A3, B3, B4, C4, column size - 2), copied from the source".
-- Each is the f64 nearest to its decimal. Definitions only.
use Rattle.std.specs.Prelude.{ℕ, ◌-◌, cond, List, [], ◌∷◌, map, nat_lt, slice_index_or, Float}
use Rattle.std.specs.Float.{nan}
use Rattle.floats.specs.Values.{decimal}

abbrev pub factors : List (List Float)
factors =
    -- A2
    map (decimal 3)
    (1880 ∷ 1023 ∷ 729 ∷ 577 ∷ 483 ∷ 419 ∷ 373 ∷ 337 ∷ 308 ∷ 285 ∷ 266 ∷ 249
    ∷ 235 ∷ 223 ∷ 212 ∷ 203 ∷ 194 ∷ 187 ∷ 180 ∷ 173 ∷ 167 ∷ 162 ∷ 157 ∷ 153 ∷ [])
    -- D3
    ∷ map (decimal 3)
    (0 ∷ 0 ∷ 0 ∷ 0 ∷ 0 ∷ 76 ∷ 136 ∷ 184 ∷ 223 ∷ 256 ∷ 283 ∷ 307
    ∷ 328 ∷ 347 ∷ 363 ∷ 378 ∷ 391 ∷ 404 ∷ 415 ∷ 425 ∷ 435 ∷ 443 ∷ 452 ∷ 459 ∷ [])
    -- D4
    ∷ map (decimal 3)
    (3267 ∷ 2575 ∷ 2282 ∷ 2114 ∷ 2004 ∷ 1924 ∷ 1864 ∷ 1816 ∷ 1777 ∷ 1744 ∷ 1717 ∷ 1693
    ∷ 1672 ∷ 1653 ∷ 1637 ∷ 1622 ∷ 1609 ∷ 1596 ∷ 1585 ∷ 1575 ∷ 1565 ∷ 1557 ∷ 1548 ∷ 1541 ∷ [])
    -- D2: "D2's first entry is Rust's FRAC_2_SQRT_PI"
    ∷ (decimal 35 112837916709551257389615890312154517
    ∷ map (decimal 4)
    (16926 ∷ 20588 ∷ 23259 ∷ 25344 ∷ 27044 ∷ 28472 ∷ 29700 ∷ 30775 ∷ 31729 ∷ 32585 ∷ 33360 ∷ 34068
    ∷ 34718 ∷ 35320 ∷ 35879 ∷ 36401 ∷ 36890 ∷ 37350 ∷ 37783 ∷ 38194 ∷ 38583 ∷ 38953 ∷ 39306 ∷ []))
    -- A3
    ∷ map (decimal 3)
    (2659 ∷ 1954 ∷ 1628 ∷ 1427 ∷ 1287 ∷ 1182 ∷ 1099 ∷ 1032 ∷ 975 ∷ 927 ∷ 886 ∷ 850
    ∷ 817 ∷ 789 ∷ 763 ∷ 739 ∷ 718 ∷ 698 ∷ 680 ∷ 663 ∷ 647 ∷ 633 ∷ 619 ∷ 606 ∷ [])
    -- B3
    ∷ map (decimal 3)
    (0 ∷ 0 ∷ 0 ∷ 0 ∷ 30 ∷ 118 ∷ 185 ∷ 239 ∷ 284 ∷ 321 ∷ 354 ∷ 382
    ∷ 406 ∷ 428 ∷ 448 ∷ 466 ∷ 482 ∷ 497 ∷ 510 ∷ 523 ∷ 534 ∷ 545 ∷ 555 ∷ 565 ∷ [])
    -- B4
    ∷ map (decimal 3)
    (3267 ∷ 2568 ∷ 2266 ∷ 2089 ∷ 1970 ∷ 1882 ∷ 1815 ∷ 1761 ∷ 1716 ∷ 1679 ∷ 1646 ∷ 1618
    ∷ 1594 ∷ 1572 ∷ 1552 ∷ 1534 ∷ 1518 ∷ 1503 ∷ 1490 ∷ 1477 ∷ 1466 ∷ 1455 ∷ 1445 ∷ 1435 ∷ [])
    -- C4
    ∷ map (decimal 4)
    (7979 ∷ 8862 ∷ 9213 ∷ 9400 ∷ 9515 ∷ 9594 ∷ 9650 ∷ 9693 ∷ 9727 ∷ 9754 ∷ 9776 ∷ 9794
    ∷ 9810 ∷ 9823 ∷ 9835 ∷ 9845 ∷ 9854 ∷ 9862 ∷ 9869 ∷ 9876 ∷ 9882 ∷ 9887 ∷ 9892 ∷ 9896 ∷ [])
    ∷ []

-- the rows by name
abbrev pub A2 : ℕ
A2 = 0

abbrev pub D3 : ℕ
D3 = 1

abbrev pub D4 : ℕ
D4 = 2

abbrev pub D2 : ℕ
D2 = 3

abbrev pub A3 : ℕ
A3 = 4

abbrev pub B3 : ℕ
B3 = 5

abbrev pub B4 : ℕ
B4 = 6

abbrev pub C4 : ℕ
C4 = 7

-- the factor of a row for subgroups of a size: "column size - 2"; sizes 0 and 1 have none
unfoldable pub factor_of : ℕ → ℕ → Float
factor_of row size = cond (nat_lt size 2) nan (slice_index_or (slice_index_or factors row []) (size - 2) nan)
