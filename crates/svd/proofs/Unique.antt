-- Any two answers within the promise of a public function are equal. Each promise is read from the source, as a caller reads it.
use Rattle.std.specs.Prelude.{Result}
use Rattle.float.proofs.Words.{refl, sym, ap, ◌∙◌, Float}
use Rattle.float.specs.Width.{F}
use Rattle.float.specs.OneAnswer.{OneAnswer}
use Rattle.float.proofs.OneAnswer.{named}
use Rattle.matrix.specs.declared.codes.Refusal.{Refusal}
use Rattle.matrix.specs.Square.{Mat2, Mat3}
use Rattle.matrix.proofs.Refusals.{told_by_code}
use Rattle.jacobi.specs.declared.pairs.Pair.{Pair}
use Rattle.jacobi.specs.declared.pairs.OffDiag.{OffDiag}
use Rattle.svd.specs.declared.polar.Polar.{Polar}
use Rattle.svd.specs.declared.polar.TwoSided.{TwoSided}
use Rattle.svd.specs.Order.{Factors2, Factors3}
use Rattle.svd.specs.Svd2x2.{Svd2Answer, whole_svd2, refused_svd2}
use Rattle.svd.specs.declared.svd2x2.Svd2.{Svd2}
use Rattle.svd.specs.Svd3x3.{SvdAnswer, whole_svd, refused_svd}
use Rattle.svd.specs.declared.svd3x3.Svd3.{Svd3}
use Rattle.svd.proofs.polar.hypot_fast.Reads as hypot-fast
use Rattle.svd.proofs.polar.compute_polar_2x2.Reads as compute-polar-2x2
use Rattle.svd.proofs.polar.compute_two_sided_rotation.Reads as compute-two-sided-rotation
use Rattle.svd.proofs.pairs.find_largest_off_diag_nonsym.Reads as find-largest-off-diag-nonsym
use Rattle.svd.proofs.pairs.apply_two_sided_rotation.Reads as apply-two-sided-rotation
use Rattle.svd.proofs.order.fix_order_and_signs_3x3.Reads as fix-order-and-signs-3x3
use Rattle.svd.proofs.order.set_order_and_signs_2x2.Reads as set-order-and-signs-2x2
use Rattle.svd.proofs.svd2x2.svd.Reads as svd2x2-svd
use Rattle.svd.proofs.svd3x3.svd.Reads as svd3x3-svd

pub one_hypot_fast : (x y : Float) → OneAnswer (λ (r : Float). hypot-fast.Post tt (x, (y, tt)) r (x, (y, tt)))
one_hypot_fast x y = named _

pub one_compute_polar_2x2 : (app aqp apq aqq : Float)
    → OneAnswer (λ (r : Polar). compute-polar-2x2.Post tt (app, (aqp, (apq, (aqq, tt)))) r (app, (aqp, (apq, (aqq, tt)))))
one_compute_polar_2x2 app aqp apq aqq = named _

pub one_compute_two_sided_rotation : (app aqp apq aqq : Float)
    → OneAnswer (λ (r : TwoSided). compute-two-sided-rotation.Post tt (app, (aqp, (apq, (aqq, tt)))) r (app, (aqp, (apq, (aqq, tt)))))
one_compute_two_sided_rotation app aqp apq aqq = named _

pub one_find_largest_off_diag_nonsym : (a : Mat3) → OneAnswer (λ (r : OffDiag). find-largest-off-diag-nonsym.Post tt (a, tt) r (a, tt))
one_find_largest_off_diag_nonsym a = named _

pub one_apply_two_sided_rotation : (a : Mat3) (p : Pair) (t : TwoSided)
    → OneAnswer (λ (r : Mat3). apply-two-sided-rotation.Post tt (a, (p, (t, tt))) r (a, (p, (t, tt))))
one_apply_two_sided_rotation a p t = named _

pub one_fix_order_and_signs_3x3 : (a b c : Float) (u v : Mat3)
    → OneAnswer (λ (r : Factors3). fix-order-and-signs-3x3.Post tt (a, (b, (c, (u, (v, tt))))) r (a, (b, (c, (u, (v, tt))))))
one_fix_order_and_signs_3x3 a b c u v = named _

pub one_set_order_and_signs_2x2 : (a b : Float) (u v : Mat2)
    → OneAnswer (λ (r : Factors2). set-order-and-signs-2x2.Post tt (a, (b, (u, (v, tt)))) r (a, (b, (u, (v, tt)))))
one_set_order_and_signs_2x2 a b u v = named _

pub one_svd2x2_svd : (a : Mat2) → OneAnswer (λ (r : Result Svd2 Refusal). svd2x2-svd.Post tt (a, tt) r (a, tt))
one_svd2x2_svd a r q p s =
    told_by_code (λ (x : Svd2Answer). x.code) (refused_svd2 F) whole_svd2 (λ k. refl) (λ x. refl)
    (λ x y e. ap (λ (z : Svd2Answer). svd2_of z) e) r q (p ∙ sym s)
  where
    svd2_of : Svd2Answer → Svd2
    svd2_of z = record { settled = z.settled; values = z.values; u = z.u; v = z.v }

pub one_svd3x3_svd : (a : Mat3) → OneAnswer (λ (r : Result Svd3 Refusal). svd3x3-svd.Post tt (a, tt) r (a, tt))
one_svd3x3_svd a r q p s =
    told_by_code (λ (x : SvdAnswer). x.code) (refused_svd F) whole_svd (λ k. refl) (λ x. refl)
    (λ x y e. ap (λ (z : SvdAnswer). svd3_of z) e) r q (p ∙ sym s)
  where
    svd3_of : SvdAnswer → Svd3
    svd3_of z = record { made = z.made; settled = z.settled; values = z.values; u = z.u; v = z.v; worked = z.worked }
