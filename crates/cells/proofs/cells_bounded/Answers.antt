use Rattle.cells.proofs.Addresses.{addresses-bounded}
use Rattle.cells.proofs.cells_bounded.Goals as goal

-- Different cells have different addresses.
pub returns : goal.returns
returns b c = λ g D two one m f is apart.
    let laws = b.met.T.Triangulation.lawful c.args.tri.now g D two one in
    addresses-bounded g D m (λ i. _) (λ i h. laws.address_size (f i) (is i h)) (λ i h. laws.address_small (f i) (is i h)) (λ i h. laws.address_full (f i) (is i h))
    (λ i j hi hj e. apart i j hi hj (laws.addressed (f i) (f j) (is i hi) (is j hj) e))
