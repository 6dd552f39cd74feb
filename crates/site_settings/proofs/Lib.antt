pub mod StandardTargets
