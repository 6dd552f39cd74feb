pub mod OneLaws
