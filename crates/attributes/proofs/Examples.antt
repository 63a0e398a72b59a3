-- Samples on their limits, a missing z, a 7 and an infinite sum of units, computed. Assumes nothing.
use Rattle.std.proofs.Common.{◌≡◌, ℕ, true, false, ◌&&◌, eqb, [], ◌∷◌, refl}
use lib.Ieee.{Float, binary64, of_bits, to_bits, of_int, round, sub, mul, div, lt, odd, size}
use lib.Ieee as ieee
use Rattle.laws.specs.Bools.{every}
use Rattle.laws.specs.Lists.{tabulate_from}
use Rattle.laws.specs.Refusals.{first_of, each}
use Rattle.floats.specs.Finite.{finite, all_finite}
use Rattle.floats.specs.Values.{whole, decimal}
use Rattle.root.specs.Root.{root_of, root_at, scaled, floor_root}
use Rattle.arith.specs.Arith.{or_nan}
use Rattle.points.specs.Points.{upper_of, lower_of, outs, has_zs, sound}
use Rattle.attributes.specs.declared.Centre.TheVariants.{Computed, Given}
use Rattle.attributes.specs.Kinds.{total_of}
use Rattle.attributes.specs.Records.{PChart, UChart, centre_wrong, record_wrong, with_centre, with_centre_p, new_p, add, add_p}
use Rattle.attributes.specs.Evaluating.{sigma_of, stored_right, wrong, centre_of, chart_centre, chart_plot, plot_p, plot_u, evaluate, evaluate_u}

-- ---- U, the centre 16, one unit each: sigma is 4, the limits are 28 and 4. A point on a limit is in control.

abbrev sixteen : ℕ → UChart
sixteen n = record { centre = Given (whole 16); count = n; size = record {} }

pub on-the-limits : outs (plot_u (sixteen 4) (28 ∷ 4 ∷ 29 ∷ 3 ∷ []) (whole 1 ∷ whole 1 ∷ whole 1 ∷ whole 1 ∷ [])) ≡ (false ∷ false ∷ true ∷ true ∷ [])
unfolding chart_plot chart_centre centre_of tabulate_from total_of sigma_of upper_of lower_of or_nan root_of root_at scaled floor_root odd size
    of_bits to_bits of_int round ieee.add sub mul div lt
on-the-limits = refl

-- ---- P, the centre 0.5, 36 inspected each: the limits are 0.75 and 0.25

abbrev halves : ℕ → PChart
halves n = record { centre = Given (decimal 1 5); count = n; size = record {} }

pub at-three-quarters : outs (plot_p (halves 4) (27 ∷ 9 ∷ 28 ∷ 8 ∷ []) (36 ∷ 36 ∷ 36 ∷ 36 ∷ [])) ≡ (false ∷ false ∷ true ∷ true ∷ [])
unfolding chart_plot chart_centre centre_of tabulate_from total_of sigma_of upper_of lower_of or_nan root_of root_at scaled floor_root odd size
    of_bits to_bits of_int round ieee.add sub mul div lt
at-three-quarters = refl

-- ---- P of one sample with none damaged: the centre is 0, sigma is 0, and z is missing

pub no-z : has_zs (plot_p (record { centre = Computed; count = 1; size = record {} }) (0 ∷ []) (9 ∷ [])) ≡ (false ∷ [])
unfolding chart_plot chart_centre centre_of tabulate_from total_of sigma_of upper_of lower_of or_nan root_of root_at scaled floor_root odd size
    of_bits to_bits of_int round ieee.add sub mul div lt
no-z = refl

-- ---- U: one damaged in the least of units has an infinite value (7); units whose sum is infinite have the centre 0.0 (0)

abbrev computed : ℕ → UChart
computed n = record { centre = Computed; count = n; size = record {} }

pub value-infinite : eqb (evaluate_u (computed 1) (1 ∷ []) (of_bits binary64 1 ∷ []) false).0 7 ≡ true
unfolding evaluate first_of wrong record_wrong centre_wrong stored_right every sound all_finite finite
    chart_plot chart_centre centre_of tabulate_from total_of sigma_of upper_of lower_of or_nan root_of root_at scaled floor_root odd size
    of_bits to_bits of_int round ieee.add sub mul div lt
value-infinite = refl

-- the largest f64
abbrev most : Float
most = of_bits binary64 0x7fef_ffff_ffff_ffff

pub sum-infinite : (eqb (evaluate_u (computed 2) (1 ∷ 1 ∷ []) (most ∷ most ∷ []) false).0 0
    && eqb (to_bits binary64 (evaluate_u (computed 2) (1 ∷ 1 ∷ []) (most ∷ most ∷ []) false).1) 0) ≡ true
unfolding evaluate first_of wrong record_wrong centre_wrong stored_right every sound all_finite finite
    chart_plot chart_centre centre_of tabulate_from total_of sigma_of upper_of lower_of or_nan root_of root_at scaled floor_root odd size
    of_bits to_bits of_int round ieee.add sub mul div lt
sum-infinite = refl

-- ---- P: a given centre of 1.0 is not allowed; nothing inspected (17) comes ahead of more damaged than inspected (18)

pub one-refused : eqb (with_centre_p (decimal 1 10)).0 20 ≡ true
unfolding with_centre first_of finite of_bits round lt
one-refused = refl

pub no-size-first : eqb (add_p new_p 1 1 1 0).0 17 ≡ true
unfolding add first_of each record_wrong centre_wrong
no-size-first = refl
