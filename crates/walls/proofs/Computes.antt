-- The check as it computes: to unfold `computes` is to unfold every definition that a result rests on.
use Rattle.basis.specs.declared.CheckResult.{CheckResult}
use Rattle.basis.specs.Fraction.{times, over, minus, smaller, larger, floor, ceil, nearest}
use Rattle.basis.specs.Load.{rounded_load}
use Rattle.basis.specs.Range.{all_within}
use Rattle.basis.specs.Refusal.{first_or}
use Rattle.basis.specs.Check.{result_of}
use Rattle.storey.specs.Range as sr
use Rattle.storey.specs.BucklingLength as sb
use Rattle.storey.specs.Span as sp
use Rattle.storey.specs.Resistance as ss
use Rattle.storey.specs.Load as sl
use Rattle.storey.specs.Height as sh
use Rattle.storey.specs.Limits as sm
use Rattle.cellar.specs.Range as cr
use Rattle.cellar.specs.RequiredLoad as cq
use Rattle.cellar.specs.Resistance as cs
use Rattle.cellar.specs.Load as cl
use Rattle.cellar.specs.Limits as cm
use Rattle.walls.specs.declared.Wall.{Wall}
use Rattle.walls.specs.Check.{check}

unfoldable pub shared : Wall → CheckResult
unfolding times over minus smaller larger floor ceil nearest rounded_load all_within first_or result_of
shared w = check w

unfoldable pub lengths : Wall → CheckResult
unfolding sr.in_range sb.bearing_suffices sb.factor sb.two_sides sb.three_sides sb.four_sides sb.length_of sb.exact_length sb.buckling_length
lengths w = check w

unfoldable pub resistances : Wall → CheckResult
unfolding sp.governing_span sp.span_reduced sp.support_span ss.at_mid_height ss.support_factor ss.at_support ss.reduction_fifths ss.unreduced ss.exact_resistance ss.resistance sl.load_of sl.exact_load sl.load
resistances w = check w

unfoldable pub storey_limits : Wall → CheckResult
unfolding sm.too_thin sm.area_too_small sm.closely_held sm.unfit_for_use sh.general_height sh.calcium_silicate_height sh.calcium_silicate_applies sh.height_limit sm.too_high sm.floor_load_too_great sm.building_too_high sm.span_too_long sm.bearing_too_shallow sm.too_weak sm.too_slender
storey_limits w = check w

unfoldable pub cellars : Wall → CheckResult
unfolding cr.in_range cq.spacing_factor cq.exact_required_load cq.required_load cs.reduction cs.exact_resistance cs.resistance cl.exact_load cl.load cm.too_thin cm.too_high cm.fill_too_high cm.ground_load_too_great cm.too_weak
cellars w = check w

unfoldable pub computes : Wall → CheckResult
unfolding shared lengths resistances storey_limits cellars
computes w = check w
