use Rattle.std.proofs.Common.{[], refl}
use Rattle.worm_picture.specs.declared.svg.Svg.{Svg}
use Rattle.worm_picture.proofs.Names.{adds, none_both, none_then, number, wrote_none}
use Rattle.worm_picture.proofs.picture.Scene.add_stub.Goals as goal

pub returns-then-port-eq5 : goal.returns-then-port-eq5
returns-then-port-eq5 c =
    let inward : Svg = record { text = c.write.new.self } in
    let outward : Svg = record { text = c.write-2.new.self } in
    let first = wrote_none c.open_frame.new.self inward _ c.in_ok-write.ensures.bytes
    (number _ _ [] (number _ _ [] (number _ _ [] (number _ _ [] (λ rest. refl))))) in
    let second = wrote_none inward outward _ c.in_ok-write-2.ensures.bytes
    (number _ _ [] (number _ _ [] (number _ _ [] (number _ _ [] (λ rest. refl))))) in
    none_then c.write-then-port-eq5.result _ _ _ (none_both _ _ _ (none_both _ _ _ (none_both _ _ _
    c.in_ok-open_frame.ensures first) second) c.in_ok-close.ensures)
    (adds c.write-then-port-eq5.result c.close.new.self (record { text = c.write-then-port-eq5.new.self }) _ []
    c.write-then-port-eq5.ensures.bytes
    (number _ _ [] (number _ _ [] (number _ _ [] (λ rest. refl)))))

pub returns : goal.returns
returns c =
    let inward : Svg = record { text = c.write.new.self } in
    let outward : Svg = record { text = c.write-2.new.self } in
    let first = wrote_none c.open_frame.new.self inward _ c.in_ok-write.ensures.bytes
    (number _ _ [] (number _ _ [] (number _ _ [] (number _ _ [] (λ rest. refl))))) in
    let second = wrote_none inward outward _ c.in_ok-write-2.ensures.bytes
    (number _ _ [] (number _ _ [] (number _ _ [] (number _ _ [] (λ rest. refl))))) in
    none_then c.write-3.result _ _ _ (none_both _ _ _ (none_both _ _ _ (none_both _ _ _
    c.in_ok-open_frame.ensures first) second) c.in_ok-close.ensures)
    (adds c.write-3.result c.close.new.self (record { text = c.write-3.new.self }) _ [] c.write-3.ensures.bytes
    (number _ _ [] (number _ _ [] (number _ _ [] (λ rest. refl)))))
